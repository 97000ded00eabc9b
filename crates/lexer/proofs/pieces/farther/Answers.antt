use Rattle.std.proofs.Common.{inl, inr, refl}
use Rattle.lexer.proofs.pieces.farther.Goals as goal

pub returns-then-is_farther : goal.returns-then-is_farther
returns-then-is_farther c = inl (refl, c.is_farther.ensures.yes c.if-is_farther.true)

pub returns-else-is_farther : goal.returns-else-is_farther
returns-else-is_farther c = inr (refl, c.is_farther.ensures.no c.if-is_farther.false)
