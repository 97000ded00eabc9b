use Rattle.lexer_match.proofs.reading.Reading.has_ended.Goals as goal

pub returns-then-ended-clause-none : goal.returns-then-ended-clause-none
returns-then-ended-clause-none c _ = cc
