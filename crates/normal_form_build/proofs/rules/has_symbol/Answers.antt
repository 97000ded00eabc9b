use Rattle.std.proofs.Common.{sym, ap, ◌∙◌}
use Rattle.grammar_tree.specs.View.{parser_term}
use Rattle.grammar_tree.proofs.Lent.{parser_term-Eof}
use Rattle.normal_form_build.specs.inner.Terms.{has_symbol}
use Rattle.normal_form_build.proofs.rules.has_symbol.Goals as goal

pub returns-in-Eof : goal.returns-in-Eof
returns-in-Eof c = sym (ap (λ t. has_symbol (parser_term t)) c.in-Eof.is ∙ ap has_symbol parser_term-Eof)
