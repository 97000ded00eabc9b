use Rattle.std.proofs.Common.{ℕ, ◌+◌, ◌-◌, ◌<◌, length, refl, sym, ◌∙◌, ap, subst, arith}
use Rattle.std.proofs.lemmas.List.{get_or_default, length_push, length-set}
use Rattle.std.specs.List.Sorted.{IsStrictlyIncreasing}
use Rattle.chart_parser.specs.inner.GoingOn.{AreGoingOn, AreReached}
use Rattle.chart_parser.proofs.Cutting.{going_on_step, last_going_on, push_reached, set_at_read}
use Rattle.chart_parser.proofs.alternative.keep_going_on.Goals as goal

pub loop-index-init : goal.loop-index-init
loop-index-init c =
    let ss = c.args.symbols.now in
    let sets = c.args.sets.now.items in
    let v = c.in_ok-vec.field-0 in
    let items = c.in_ok-push.ensures.items in
    let i = c.args.part.first in
    let j = c.args.part.end in (
      refl,
      ap length items ∙ length_push sets v ∙ ap (λ (x : ℕ). x + 1) c.requires.count,
      subst (AreReached c.args.chart.now.normal c.args.chart.now.kinds ss i j (length ss)) (sym items)
          (push_reached c.args.chart.now.normal c.args.chart.now.kinds ss (length ss) i j sets v (omega (arith, c.requires.count)) c.requires.reached),
      subst (AreGoingOn c.args.chart.now.normal c.args.chart.now.kinds ss i j (length ss)) (sym items)
          (last_going_on c.args.chart.now.normal c.args.chart.now.kinds ss i j sets v c.requires.count c.in_ok-vec.ensures.items c.requires.within),
    )

pub loop-index-preserved : goal.loop-index-preserved
loop-index-preserved c =
    let n = c.loop-index.index in
    let ss = c.args.symbols.now in
    let sets = c.loop-index.sets.items in
    let at : n - 1 < length ss = omega (arith, c.loop-index-test.true, c.loop-index.auto.index) in
    let step =
    going_on_step c.loop-index.chart c.args.chart.now ss n c.args.part.first c.args.part.end _ sets c.index.result.now c.index-in-loop-index.result.now
    c.in_ok-kept.kept c.deref.result.now c.deref-in-loop-index.result.now
    c.loop-index.invariant.0 c.loop-index-test.true c.loop-index.auto.index c.loop-index.invariant.1 c.loop-index.invariant.2 c.loop-index.invariant.3
    (get_or_default ss (n - 1) _ _ at) c.index.ensures c.deref.ensures.value c.index-in-loop-index.ensures c.deref-in-loop-index.ensures.value
    c.in_ok-kept.ensures.kept in
    (c.in_ok-kept.ensures.same ∙ c.loop-index.invariant.0, length-set sets (n - 1) c.in_ok-kept.kept ∙ c.loop-index.invariant.1, step.0, step.1)

pub returns-clause-going_on : goal.returns-clause-going_on
returns-clause-going_on c k a b = c.loop-index.invariant.3 k (omega (arith, a, c.loop-index-test.false)) b

pub going_on-requires-clause-rising : goal.going_on-requires-clause-rising
going_on-requires-clause-rising c =
    let m = c.loop-index.index - 1 in
    let l : m < length c.loop-index.sets.items = omega (arith, c.loop-index.invariant.1, c.loop-index.auto.index, c.loop-index-test.true) in
    let at = c.deref.ensures.value ∙ set_at_read c.loop-index.sets.items m c.index.result.now l c.index.ensures in
    subst IsStrictlyIncreasing (sym at) (c.loop-index.invariant.2 m (omega (arith, c.loop-index-test.true))).rising

pub going_on-requires-clause-rising_later : goal.going_on-requires-clause-rising_later
going_on-requires-clause-rising_later c =
    let m = c.loop-index.index - 1 in
    let l : m + 1 < length c.loop-index.sets.items = omega (arith, c.loop-index.invariant.1, c.loop-index.auto.index, c.loop-index-test.true) in
    let at =
    c.deref-in-loop-index.ensures.value ∙ set_at_read c.loop-index.sets.items (m + 1) c.index-in-loop-index.result.now l c.index-in-loop-index.ensures in
    subst IsStrictlyIncreasing (sym at) (c.loop-index.invariant.3 (m + 1) (omega (arith, c.loop-index-test.true))
    (omega (arith, c.loop-index.auto.index, c.loop-index-test.true))).rising
