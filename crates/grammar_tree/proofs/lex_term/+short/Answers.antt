use Rattle.std.proofs.Common.{sym, ap, ◌∙◌}
use Rattle.grammar_tree.specs.Matches.{has_short}
use Rattle.grammar_tree.specs.View.{lex_term}
use Rattle.grammar_tree.proofs.LexerViews.{lex_term-Short}
use Rattle.grammar_tree.proofs.lex_term.+short.Goals as goal

pub LexTerm::has_short-returns-in-Short : goal.LexTerm::has_short-returns-in-Short
LexTerm::has_short-returns-in-Short t c = sym (ap (λ x. has_short (lex_term x)) c.in-Short.is ∙ ap has_short (lex_term-Short c.in-Short.field-0))
