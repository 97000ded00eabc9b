use Rattle.std.proofs.Common.{List, ◌<◌, refl, sym, ◌∙◌, subst, arith}
use Rattle.normal_form.specs.Spans.{DerivesSpan}
use Rattle.chart_parser_ends.specs.Input.{ChartInput}
use Rattle.chart_parser_ends.specs.Positions.{IsLastAmong}
use Rattle.chart_parser.specs.declared.part.Part.{Part}
use Rattle.chart_parser.proofs.ElementEnds.{IsCutAt, always_more, cut_begins, cut_done, cut_more, moves_to_last}
use Rattle.chart_parser.proofs.elements.add_elements.Goals as goal

pub loop-position-init : goal.loop-position-init
loop-position-init c = (
  refl,
  cut_begins c.args.chart.now.normal c.args.chart.now.kinds c.args.symbol c.args.part.first c.args.part.end c.args.elements.now.items c.requires.none
      c.requires.derived,
)

pub unreachable-requires : goal.unreachable-requires
unreachable-requires c =
    let last =
    subst (λ (x : ChartInput). IsLastAmong (DerivesSpan x.normal x.kinds c.args.symbol c.loop-position.position) c.args.ends.now c.in_ok-end.field-0)
    c.loop-position.invariant.0 c.in_ok-end.ensures.last in
    always_more c.args.chart.now.normal c.args.chart.now.kinds c.args.symbol c.args.part.first c.args.part.end c.loop-position.position c.args.ends.now
    c.loop-position.elements.items c.in_ok-end.field-0 c.loop-position-test.true c.requires.ends c.requires.moves_on c.loop-position.invariant.1 last
    c.in_default.is

pub loop-position-smaller : goal.loop-position-smaller
loop-position-smaller c =
    let last = subst (λ (x : ChartInput). IsLastAmong (DerivesSpan x.normal x.kinds c.args.symbol c.loop-position.position) c.args.ends.now c.in_ok-end.field-0)
    c.loop-position.invariant.0 c.in_ok-end.ensures.last in
    let on : c.loop-position.position < c.in-Some.end =
    moves_to_last c.args.chart.now.normal c.args.chart.now.kinds c.args.symbol c.loop-position.position c.in-Some.end c.args.ends.now c.in_ok-end.field-0
    c.requires.moves_on last c.in-Some.is in
    omega (arith, on, c.loop-position-test.true)

pub loop-position-preserved : goal.loop-position-preserved
loop-position-preserved c =
    let last = subst (λ (x : ChartInput). IsLastAmong
    (DerivesSpan x.normal x.kinds c.args.symbol c.loop-position.position) c.args.ends.now c.in_ok-end.field-0) c.loop-position.invariant.0
    c.in_ok-end.ensures.last in
    let step =
    cut_more c.args.chart.now.normal c.args.chart.now.kinds c.args.symbol c.args.part.first c.args.part.end c.loop-position.position c.in-Some.end
    c.args.ends.now c.loop-position.elements.items c.in_ok-end.field-0 _ c.loop-position-test.true c.requires.ends c.requires.moves_on
    c.loop-position.invariant.1 last c.in-Some.is refl refl refl in (
      c.in_ok-end.ensures.same ∙ c.loop-position.invariant.0,
      subst (λ (l : List Part). IsCutAt c.args.chart.now.normal c.args.chart.now.kinds c.args.symbol c.args.part.first c.args.part.end c.in-Some.end l)
          (sym c.in_ok-push.ensures.items) step,
    )

pub returns-clause-elements : goal.returns-clause-elements
returns-clause-elements c =
    cut_done c.args.chart.now.normal c.args.chart.now.kinds c.args.symbol c.args.part.first c.args.part.end c.loop-position.position
    c.loop-position.elements.items c.loop-position-test.false c.loop-position.invariant.1
