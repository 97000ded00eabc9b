use Rattle.std.proofs.Common.{ℕ, List, ◌+◌, ◌-◌, ◌<◌, ◌≡◌, length, get_or, drop, take, refl, sym, ◌∙◌, ap, subst, arith}
use Rattle.std.proofs.lemmas.Grind.{get_or_default_zero}
use Rattle.std.proofs.lemmas.List.{take_rest}
use Rattle.normal_form.specs.Spans.{DerivesSpan}
use Rattle.chart_parser_ends.specs.Input.{ChartInput}
use Rattle.chart_parser_ends.specs.Positions.{HasExactly, IsLastAmong}
use Rattle.chart_parser.specs.inner.GoingOn.{ElementsGoOn}
use Rattle.chart_parser.proofs.Cutting.{is_not_there, is_there}
use Rattle.chart_parser.proofs.ElementEnds.{AreMoved, moved_begin, moved_more, moved_same}
use Rattle.chart_parser.proofs.elements.keep_going_on.Goals as goal

pub loop-index-init : goal.loop-index-init
loop-index-init c =
    let n : c.len-count.result ≡ length c.args.positions.now.items = omega (arith, c.len-count.ensures, c.args.positions.now.ok) in (
      refl,
      subst (AreMoved c.args.chart.now.normal c.args.chart.now.kinds c.args.symbol c.args.positions.now.items c.args.end c.len-count.result c.len-count.result)
          (sym c.in_ok-push.ensures.items) (moved_begin c.args.chart.now.normal c.args.chart.now.kinds c.args.symbol c.args.positions.now.items c.args.end
          c.len-count.result n c.requires.within),
    )

pub loop-index-preserved-then-is_some : goal.loop-index-preserved-then-is_some
loop-index-preserved-then-is_some c =
    let moved = c.loop-index.invariant.1 in
    let before = c.args.positions.now.items in
    let positions = c.loop-index.positions.items in
    let n = c.loop-index.index in
    let from = c.loop-index.from in
    let p = c.index-position.result.now in
    let found = c.in_ok-last_among.field-0 in
    let among : take (length c.deref.result.now - from) (drop from c.deref.result.now) ≡ drop from positions =
    take_rest c.deref.result.now from ∙ ap (drop from) c.deref.ensures.value in
    let there = is_there found (sym c.if-is_some.ensures) in
    let last =
    subst (λ (x : ChartInput). IsLastAmong (DerivesSpan x.normal x.kinds c.args.symbol p)
    (take (length c.deref.result.now - from) (drop from c.deref.result.now)) found) c.loop-index.invariant.0 c.in_ok-last_among.ensures.last in
    let last-among = subst (λ (l : List ℕ). IsLastAmong (DerivesSpan c.args.chart.now.normal c.args.chart.now.kinds c.args.symbol p) l found) among last in
    let en : n ≡ n - 1 + 1 = omega (arith, c.loop-index-test.true) in
    let ef : from ≡ from - 1 + 1 = omega (arith, c.loop-index-test.true, moved.ordered) in
    let small : n - 1 < length before = omega (arith, moved.ordered, moved.within, moved.length_is, c.loop-index-test.true) in
    let at : p ≡ get_or positions (n - 1) 0 = c.index-position.ensures ∙ get_or_default_zero positions (n - 1) p (omega (arith, small, moved.length_is)) in (
      c.in_ok-last_among.ensures.same ∙ c.loop-index.invariant.0,
      moved_more c.args.chart.now.normal c.args.chart.now.kinds c.args.symbol before c.args.end n (n - 1) from
          (from - 1) p positions found there.0 en ef small c.requires.rising c.requires.before moved at last-among there.1,
    )

pub loop-index-preserved : goal.loop-index-preserved
loop-index-preserved c =
    let moved = c.loop-index.invariant.1 in
    let before = c.args.positions.now.items in
    let positions = c.loop-index.positions.items in
    let n = c.loop-index.index in
    let from = c.loop-index.from in
    let p = c.index-position.result.now in
    let found = c.in_ok-last_among.field-0 in
    let among : take (length c.deref.result.now - from) (drop from c.deref.result.now) ≡ drop from positions = take_rest c.deref.result.now from
    ∙ ap (drop from) c.deref.ensures.value in
    let last = subst (λ (x : ChartInput). IsLastAmong (DerivesSpan x.normal x.kinds c.args.symbol p)
    (take (length c.deref.result.now - from) (drop from c.deref.result.now)) found) c.loop-index.invariant.0 c.in_ok-last_among.ensures.last in
    let last-among = subst (λ (l : List ℕ). IsLastAmong (DerivesSpan c.args.chart.now.normal c.args.chart.now.kinds c.args.symbol p) l found) among last in
    let en : n ≡ n - 1 + 1 = omega (arith, c.loop-index-test.true) in
    let small : n - 1 < length before = omega (arith, moved.ordered, moved.within, moved.length_is, c.loop-index-test.true) in
    let at : p ≡ get_or positions (n - 1) 0 = c.index-position.ensures ∙ get_or_default_zero positions (n - 1) p (omega (arith, small, moved.length_is)) in (
      c.in_ok-last_among.ensures.same ∙ c.loop-index.invariant.0,
      moved_same c.args.chart.now.normal c.args.chart.now.kinds c.args.symbol before c.args.end n
          (n - 1) from p positions found en small c.requires.rising c.requires.before c.requires.closed c.requires.moves_on c.requires.within moved at
          last-among (is_not_there found (sym c.if-is_some.ensures)),
    )

pub returns-clause-going_on : goal.returns-clause-going_on
returns-clause-going_on c =
    let n : c.loop-index.index ≡ 0 = omega (arith, c.loop-index-test.false) in
    subst (λ (k : ℕ). HasExactly (ElementsGoOn c.args.chart.now.normal c.args.chart.now.kinds c.args.symbol c.args.end (drop k c.args.positions.now.items))
    (drop c.loop-index.from c.loop-index.positions.items)) n c.loop-index.invariant.1.exactly

pub index_mut-requires : goal.index_mut-requires
index_mut-requires c = omega (arith, c.loop-index.invariant.1.within, c.loop-index.positions.ok)

pub overflow_sub-from : goal.overflow_sub-from
overflow_sub-from c = omega (arith, c.loop-index.invariant.1.ordered, c.loop-index-test.true)
