use Rattle.std.proofs.Common.{◌<◌, refl, ◌∙◌, arith, length}
use Rattle.std.proofs.lemmas.List.{get_or_default}
use Rattle.chart_parser.proofs.KnownParts.{known_step, none_ends_step}
use Rattle.chart_parser.proofs.known.add_known_parts.Goals as goal

pub returns-in-empty-clause-known : goal.returns-in-empty-clause-known
returns-in-empty-clause-known c whole =
    let n = c.loop-index.index in
    let ss = c.args.symbols.now in
    let l : n < length ss = omega (arith, c.loop-index-test.true, c.saturating_sub-index-end.ensures) in
    none_ends_step c.loop-index.chart c.args.chart.now ss c.args.part.first c.args.part.end n c.loop-index.position _ c.add_ends.new.positions.items
    c.as_slice.result.now c.loop-index.parts.items c.loop-index.invariant.0 l (get_or_default ss n _ _ l) c.loop-index.invariant.1 c.as_slice.ensures.value
    (omega (arith, c.in-empty.len_below)) c.in_ok-add_ends.ensures.all whole

pub loop-index-preserved : goal.loop-index-preserved
loop-index-preserved c =
    let n = c.loop-index.index in
    let ss = c.args.symbols.now in
    let l : n < length ss = omega (arith, c.loop-index-test.true, c.saturating_sub-index-end.ensures) in (
      c.in_ok-add_ends.ensures.same ∙ c.loop-index.invariant.0,
      known_step c.loop-index.chart c.args.chart.now ss c.args.part.first c.args.part.end n c.loop-index.position _ c.clear.new.self.items
          c.add_ends.new.positions.items c.as_slice.result.now c.loop-index.parts.items c.push.new.self.items _ c.loop-index.invariant.0 l
          (get_or_default ss n _ _ l) c.loop-index.invariant.1 c.clear.ensures.items c.as_slice.ensures.value
          (omega (arith, c.in-len1.len_at_least, c.in-len1.len_below)) c.in_ok-add_ends.ensures.grown c.in_ok-add_ends.ensures.all refl refl refl
          c.in_ok-push-in-len1.ensures.items,
    )
