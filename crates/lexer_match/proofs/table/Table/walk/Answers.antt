use Rattle.lexer_match.proofs.table.Table.walk.Goals as goal

pub returns-in-Some : goal.returns-in-Some
returns-in-Some c P t = c.walk_from.ensures P t (c.in-Some.ensures P t)
