use Rattle.std.proofs.Common.{◌≡◌, false, true, length, sym, ◌∙◌, ap, subst}
use Rattle.normal_form.specs.Spans.{DerivesSpan}
use Rattle.chart_parser_ends.specs.Input.{ChartInput}
use Rattle.chart_parser_ends.proofs.Lent.{lists}
use Rattle.chart_parser.proofs.parser.parse.Goals as goal

pub returns-then-not-branch : goal.returns-then-not-branch
returns-then-not-branch c d =
    let span = ((lists c.args.normal.now c.args.kinds.now).whole c.args.start).1 d in
    let at = subst (λ (x : ChartInput). DerivesSpan x.normal x.kinds c.args.start 0 (length c.args.kinds.now)) (sym c.in_ok-chart.ensures) span in
    false_true (sym c.if-not-branch.true ∙ c.in_ok-reaches.ensures.answer.1 at)
  where
    false_true : false ≡ true → ⊥
    false_true e = absurd (cc)

pub preferred_tree-requires-clause-form : goal.preferred_tree-requires-clause-form
preferred_tree-requires-clause-form c =
    let same = c.in_ok-reaches.ensures.same ∙ c.in_ok-chart.ensures in
    ap (λ (x : ChartInput). x.normal) same

pub preferred_tree-requires-clause-kinds : goal.preferred_tree-requires-clause-kinds
preferred_tree-requires-clause-kinds c =
    let same = c.in_ok-reaches.ensures.same ∙ c.in_ok-chart.ensures in
    ap (λ (x : ChartInput). x.kinds) same

pub preferred_tree-requires-clause-derived : goal.preferred_tree-requires-clause-derived
preferred_tree-requires-clause-derived c =
    subst (λ (x : ChartInput). DerivesSpan x.normal x.kinds c.args.start 0 (length c.args.kinds.now)) (sym c.in_ok-reaches.ensures.same)
    (c.in_ok-reaches.ensures.answer.0 c.if-not-branch.false)
