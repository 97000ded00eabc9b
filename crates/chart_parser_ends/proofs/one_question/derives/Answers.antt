use Rattle.std.proofs.Common.{IfOk, length, subst}
use Rattle.std.specs.Prelude.{◌↔◌, IsTrue}
use Rattle.std.proofs.lemmas.Result.{IfOk-weaker}
use Rattle.normal_form.specs.Spans.{DerivesSpan}
use Rattle.chart_parser_ends.proofs.Spans.{lists}
use Rattle.chart_parser_ends.proofs.one_question.derives.Goals as goal

pub returns : goal.returns
returns c =
    let N = c.args.normal.now in
    let K = c.args.kinds.now in
    let s = c.args.symbol in
    let whole = (lists N K).whole s in
    IfOk-weaker c.reaches.result _ _ (λ b h. (λ t. whole.0 (h.0 t), λ d. h.1 (whole.1 d)))
    (subst (λ x. IfOk c.reaches.result (λ answer. IsTrue answer ↔ DerivesSpan x.normal x.kinds s 0 (length K))) c.in_ok-chart.ensures c.reaches.ensures.answer)
