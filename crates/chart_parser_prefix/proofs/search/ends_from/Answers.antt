use Rattle.std.proofs.Common.{List, get_or, refl, subst, ℕ, ◌∙◌}
use Rattle.chart_parser_ends.specs.Input.{ChartInput}
use Rattle.chart_parser_ends.specs.Positions.{EndsUpTo, HasAll, HasExactly, IsGrown}
use Rattle.chart_parser_ends.specs.inner.Working.{DerivesFrom}
use Rattle.chart_parser_prefix.proofs.Alternatives.{ends_more, ends_none}
use Rattle.std.proofs.lemmas.List.{take_all}
use Rattle.chart_parser_prefix.proofs.search.ends_from.Goals as goal

pub loop-position-init : goal.loop-position-init
loop-position-init c =
    (refl, ends_none c.args.chart.now.normal c.args.chart.now.kinds c.args.symbol c.args.positions.now c.new-ends.result.items c.new-ends.ensures.items)

pub add_ends-requires : goal.add_ends-requires
add_ends-requires c = c.loop-position.invariant.1.rising

pub loop-position-preserved : goal.loop-position-preserved
loop-position-preserved c =
    let N = c.args.chart.now.normal in
    let K = c.args.chart.now.kinds in
    let s = c.args.symbol in
    let same = c.loop-position.invariant.0 in
    let i = c.loop-position.position-index in
    let p = get_or c.args.positions.now i 0 in
    let old = c.loop-position.ends.items in
    let new = c.add_ends.new.positions.items in
    let grown = subst (λ (x : ChartInput). IsGrown (EndsUpTo x.normal x.kinds s p c.args.last) old new) same c.in_ok-add_ends.ensures.grown in
    let all = subst (λ (x : ChartInput). HasAll (EndsUpTo x.normal x.kinds s p c.args.last) new) same c.in_ok-add_ends.ensures.all in (
      c.in_ok-add_ends.ensures.same ∙ same,
      ends_more N K s c.args.positions.now i c.args.last old new c.requires c.loop-position-test.true
          c.loop-position.invariant.1 c.in_ok-add_ends.ensures.rising grown all,
    )

pub returns-clause-ends : goal.returns-clause-ends
returns-clause-ends c =
    subst (λ (l : List ℕ). HasExactly (DerivesFrom c.args.chart.now.normal c.args.chart.now.kinds c.args.symbol l) c.loop-position.ends.items)
    (take_all c.loop-position.position-index c.args.positions.now c.loop-position-test.false) c.loop-position.invariant.1
