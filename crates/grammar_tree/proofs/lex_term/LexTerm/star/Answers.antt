use Rattle.std.proofs.Common.{ap, ◌∙◌}
use Rattle.grammar_tree.specs.Written.{LexerTerm}
use Rattle.grammar_tree.specs.View.{lex_term}
use Rattle.grammar_tree.proofs.LexerViews.{lex_term-Star}
use Rattle.grammar_tree.proofs.lex_term.LexTerm.star.Goals as goal

pub returns : goal.returns
returns c = lex_term-Star c.in_ok-new.field-0 ∙ ap (λ x. LexerTerm.star (lex_term x)) c.in_ok-new.ensures.ok
