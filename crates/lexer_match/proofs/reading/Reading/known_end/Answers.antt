use Rattle.std.proofs.Common.{inl, inr}
use Rattle.lexer_match.proofs.reading.Reading.known_end.Goals as goal

pub returns-clause-traced : goal.returns-clause-traced
returns-clause-traced c p k = elim (c.in_ok-known.ensures.traced p k) [ inl h ↦ inl h | inr h ↦ inr (c.if-ended.false, h) ]
