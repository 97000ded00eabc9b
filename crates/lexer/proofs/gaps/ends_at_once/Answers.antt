use Rattle.lexer.proofs.gaps.ends_at_once.Goals as goal

pub returns-then-alternative-clause-yes : goal.returns-then-alternative-clause-yes
returns-then-alternative-clause-yes c flag = (c.if-alternative.true, flag)

pub returns-then-alternative-clause-no : goal.returns-then-alternative-clause-no
returns-then-alternative-clause-no c unflagged _ = unflagged
