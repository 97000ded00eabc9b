use Rattle.std.proofs.Common.{ap, ◌∙◌}
use Rattle.grammar_tree.specs.Written.{LexerTerm}
use Rattle.grammar_tree.proofs.LexerViews.{lex_term-Short}
use Rattle.grammar_tree.proofs.lex_term.short.Goals as goal

pub returns : goal.returns
returns c = lex_term-Short c.in_ok-copy.field-0 ∙ ap LexerTerm.short c.in_ok-copy.ensures
