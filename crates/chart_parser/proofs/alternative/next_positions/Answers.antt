use Rattle.std.proofs.Common.{ℕ, List, get_or, refl, ◌∙◌, ap, subst, length, arith}
use Rattle.std.proofs.lemmas.List.{take_all}
use Rattle.chart_parser_ends.specs.Input.{ChartInput}
use Rattle.chart_parser_ends.specs.Positions.{EndsUpTo, HasAll, IsGrown}
use Rattle.chart_parser.specs.inner.GoingOn.{EndsFrom}
use Rattle.chart_parser.proofs.Cutting.{next_more, next_none}
use Rattle.chart_parser.proofs.alternative.next_positions.Goals as goal

pub loop-position-init : goal.loop-position-init
loop-position-init c = (
  refl,
  (λ k h. absurd (omega (arith, h, ap length c.new-next.ensures.items))),
  next_none c.args.chart.now.normal c.args.chart.now.kinds c.args.symbol c.args.end c.new-next.result.items,
)

pub loop-position-preserved : goal.loop-position-preserved
loop-position-preserved c =
    let same = c.loop-position.invariant.0 in
    let i = c.loop-position.position-index in
    let p = get_or c.args.positions.now i 0 in
    let old = c.loop-position.next.items in
    let new = c.add_ends.new.positions.items in
    let grown = subst (λ (x : ChartInput). IsGrown (EndsUpTo x.normal x.kinds c.args.symbol p c.args.end) old new) same c.in_ok-add_ends.ensures.grown in
    let all = subst (λ (x : ChartInput). HasAll (EndsUpTo x.normal x.kinds c.args.symbol p c.args.end) new) same c.in_ok-add_ends.ensures.all in (
      c.in_ok-add_ends.ensures.same ∙ same,
      c.in_ok-add_ends.ensures.rising,
      next_more c.args.chart.now.normal c.args.chart.now.kinds c.args.symbol c.args.positions.now i c.args.end old new c.loop-position-test.true
          c.loop-position.invariant.2 grown all,
    )

pub returns-clause-all : goal.returns-clause-all
returns-clause-all c =
    subst (λ (l : List ℕ). HasAll (EndsFrom c.args.chart.now.normal c.args.chart.now.kinds c.args.symbol l c.args.end) c.loop-position.next.items)
    (take_all c.loop-position.position-index c.args.positions.now c.loop-position-test.false) c.loop-position.invariant.2
