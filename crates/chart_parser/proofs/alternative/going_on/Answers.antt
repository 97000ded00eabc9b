use Rattle.std.proofs.Common.{ℕ, List, take, get_or, ◌+◌, refl, sym, ◌∙◌, ap, subst}
use Rattle.std.proofs.lemmas.List.{take_all}
use Rattle.std.specs.Global.{Vec}
use Rattle.chart_parser_ends.specs.Input.{ChartInput}
use Rattle.chart_parser_ends.specs.Positions.{HasExactly, IsLastAmong}
use Rattle.normal_form.specs.Spans.{DerivesSpan}
use Rattle.chart_parser.specs.inner.GoingOn.{Meets}
use Rattle.chart_parser.proofs.Cutting.{is_not_there, is_there, meets_more, meets_none, meets_same}
use Rattle.chart_parser.proofs.alternative.going_on.Goals as goal
use Rattle.chart_parser.proofs.alternative.going_on.Goals.{then-is_some+in_ok-push, else-is_some}

pub loop-position-init : goal.loop-position-init
loop-position-init c =
    (refl, meets_none c.args.chart.now.normal c.args.chart.now.kinds c.args.symbol c.args.later.now c.new-kept.result.items c.new-kept.ensures.items)

pub loop-position-preserved : goal.loop-position-preserved
loop-position-preserved c =
    let N = c.args.chart.now.normal in
    let K = c.args.chart.now.kinds in
    let same = c.loop-position.invariant.0 in
    let i = c.loop-position.position-index in
    let positions = c.args.positions.now in
    let found = c.in_ok-last_among.field-0 in
    let last =
    subst (λ (x : ChartInput). IsLastAmong (DerivesSpan x.normal x.kinds c.args.symbol (get_or positions i 0)) c.args.later.now found) same
    c.in_ok-last_among.ensures.last in
    let Kept : List ℕ → Type 0 = HasExactly (Meets N K c.args.symbol (take (i + 1) positions) c.args.later.now) in
    elim c.if-is_some.branch [
      | then-is_some+in_ok-push w ↦ (
          let there = is_there found (sym w.if-is_some.ensures) in
          let more =
          meets_more N K c.args.symbol positions c.args.later.now c.loop-position.kept.items i found there.0 c.loop-position-test.true c.requires.rising
          c.loop-position.invariant.1 last there.1 in
          (c.in_ok-last_among.ensures.same ∙ same, subst Kept (sym (ap (λ (v : Vec ℕ). v.items) w.kept-is ∙ w.in_ok-push.ensures.items)) more))
      | else-is_some w ↦ (
          let kept =
          meets_same N K c.args.symbol positions c.args.later.now c.loop-position.kept.items i found c.loop-position-test.true c.loop-position.invariant.1 last
          (is_not_there found (sym w.if-is_some.ensures)) in
          (c.in_ok-last_among.ensures.same ∙ same, subst Kept (sym (ap (λ (v : Vec ℕ). v.items) w.kept-is)) kept))
    ]

pub returns-clause-kept : goal.returns-clause-kept
returns-clause-kept c =
    subst (λ (l : List ℕ). HasExactly (Meets c.args.chart.now.normal c.args.chart.now.kinds c.args.symbol l c.args.later.now) c.loop-position.kept.items)
    (take_all c.loop-position.position-index c.args.positions.now c.loop-position-test.false) c.loop-position.invariant.1
