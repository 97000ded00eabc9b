use Rattle.grammar_tree.proofs.Lent.{lex_term-Short}
use Rattle.grammar_reader_lexer_rules.proofs.top.short.Goals as goal

pub returns : goal.returns
returns c = lex_term-Short c.args.set
