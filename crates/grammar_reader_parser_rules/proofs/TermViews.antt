-- What is seen of the terms that a name in upper case can be.
use Rattle.grammar_tree.proofs.Lent.{parser_term-Name, parser_term-Eof}

pub ruleset views = (parser_term-Name, parser_term-Eof)
