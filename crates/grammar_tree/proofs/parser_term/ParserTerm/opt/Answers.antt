use Rattle.std.proofs.Common.{ap, ◌∙◌}
use Rattle.grammar_tree.specs.Written.{WrittenTerm}
use Rattle.grammar_tree.specs.View.{parser_term}
use Rattle.grammar_tree.proofs.ParserViews.{parser_term-Opt}
use Rattle.grammar_tree.proofs.parser_term.ParserTerm.opt.Goals as goal

pub returns : goal.returns
returns c = parser_term-Opt c.in_ok-new.field-0 ∙ ap (λ x. WrittenTerm.opt (parser_term x)) c.in_ok-new.ensures.ok
