use Rattle.std.proofs.Common.{ap, false, subst, sym, true, ◌∙◌, ◌≡◌}
use Rattle.chart_parser_prefix.specs.inner.Expected.{is_token}
use Rattle.normal_form.specs.Spans.{DerivesSpan}
use Rattle.chart_parser_prefix.proofs.search.is_next.Goals as goal

false_true : false ≡ true → ⊥
false_true e = absurd (cc)

pub returns-in-Rule-clause-no : goal.returns-in-Rule-clause-no
returns-in-Rule-clause-no c e token d = absurd (false_true (sym (ap is_token c.in-Rule.is) ∙ token))

pub returns-clause-yes : goal.returns-clause-yes
returns-clause-yes c t =
    subst (DerivesSpan c.args.chart.now.normal c.args.chart.now.kinds c.args.symbol c.args.position) c.requires (c.in_ok-answer.ensures.answer.0 t)

pub returns-clause-no : goal.returns-clause-no
returns-clause-no c e token d =
    false_true (sym e ∙ c.in_ok-answer.ensures.answer.1
    (subst (DerivesSpan c.args.chart.now.normal c.args.chart.now.kinds c.args.symbol c.args.position) (sym c.requires) d))
