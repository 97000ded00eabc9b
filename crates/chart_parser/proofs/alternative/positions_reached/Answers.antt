use Rattle.std.proofs.Common.{ℕ, List, ◌∷◌, ◌++◌, [], ◌<◌, ◌+◌, length, refl, sym, ◌∙◌, ap, subst, arith}
use Rattle.std.proofs.lemmas.List.{get_or_default, length_push}
use Rattle.std.specs.Global.{Vec}
use Rattle.chart_parser.specs.inner.GoingOn.{AreReached}
use Rattle.chart_parser.proofs.Cutting.{first_reached, reach_step}
use Rattle.chart_parser.proofs.alternative.positions_reached.Goals as goal

pub loop-index-init : goal.loop-index-init
loop-index-init c =
    let v = c.in_ok-vec.field-0 in
    let items = c.in_ok-push.ensures.items ∙ ap (λ (l : List (Vec ℕ)). l ++ v ∷ []) c.in_ok-sets.ensures.items in (
      refl,
      ap length items,
      subst (AreReached c.args.chart.now.normal c.args.chart.now.kinds c.args.symbols.now c.args.part.first c.args.part.end 1) (sym items)
          (first_reached c.args.chart.now.normal c.args.chart.now.kinds c.args.symbols.now c.args.part.first c.args.part.end v c.in_ok-vec.ensures.items),
    )

pub loop-index-preserved : goal.loop-index-preserved
loop-index-preserved c =
    let n = c.loop-index.index in
    let ss = c.args.symbols.now in
    let within : n < length ss = omega (arith, c.loop-index-test.true) in
    let next =
    reach_step c.loop-index.chart c.args.chart.now ss n c.args.part.first c.args.part.end _ c.loop-index.sets.items c.index.result.now c.in_ok-next.next
    c.deref.result.now c.loop-index.invariant.0 within
    (get_or_default ss n _ _ within) c.loop-index.invariant.1 c.loop-index.invariant.2 c.index.ensures c.deref.ensures.value c.in_ok-next.ensures.rising
    c.in_ok-next.ensures.all in
    let items = c.in_ok-push-2.ensures.items in (
      c.in_ok-next.ensures.same ∙ c.loop-index.invariant.0,
      ap length items ∙ length_push c.loop-index.sets.items c.in_ok-next.next ∙ ap (λ (x : ℕ). x + 1) c.loop-index.invariant.1,
      subst (AreReached c.args.chart.now.normal c.args.chart.now.kinds ss c.args.part.first c.args.part.end (n + 1 + 1)) (sym items) next,
    )

pub returns-clause-reached : goal.returns-clause-reached
returns-clause-reached c k l = c.loop-index.invariant.2 k (omega (arith, l, c.loop-index-test.false))
