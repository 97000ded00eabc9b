use Rattle.std.proofs.Common.{List, ◌+◌, refl, sym, ◌∙◌, subst, arith}
use Rattle.std.proofs.lemmas.List.{get_or_default}
use Rattle.std.specs.List.Sorted.{IsStrictlyIncreasing}
use Rattle.chart_parser.specs.declared.part.Part.{Part}
use Rattle.chart_parser.proofs.Cutting.{IsCutAt, cut_begins, cut_done, cut_step, no_cut_step, set_at_read}
use Rattle.chart_parser.proofs.alternative.add_parts.Goals as goal

pub loop-index-init : goal.loop-index-init
loop-index-init c = (
  refl,
  cut_begins c.args.chart.now.normal c.args.chart.now.kinds c.args.symbols.now c.args.part.first c.args.part.end c.args.parts.now.items c.requires.none
      c.requires.within,
)

pub loop-index-preserved : goal.loop-index-preserved
loop-index-preserved c =
    let n = c.loop-index.index in
    let ss = c.args.symbols.now in
    let step =
    cut_step c.loop-index.chart c.args.chart.now ss n c.args.part.first c.args.part.end c.loop-index.position c.in-Some.end _ c.args.sets.now
    c.index-sets-index.result c.deref.result.now c.loop-index.parts.items c.in_ok-end.field-0 _
    c.loop-index.invariant.0 c.loop-index-test.true
    (get_or_default ss n _ _ c.loop-index-test.true) c.requires.count c.requires.going_on c.loop-index.invariant.1 c.index-sets-index.is c.deref.ensures.value
    c.in_ok-end.ensures.last c.in-Some.is refl refl refl in (
      c.in_ok-end.ensures.same ∙ c.loop-index.invariant.0,
      subst (λ (l : List Part). IsCutAt c.args.chart.now.normal c.args.chart.now.kinds ss c.args.part.first c.args.part.end (n + 1) c.in-Some.end l)
          (sym c.in_ok-push.ensures.items) step,
    )

pub returns-in_default-clause-no : goal.returns-in_default-clause-no
returns-in_default-clause-no c e =
    let n = c.loop-index.index in
    let ss = c.args.symbols.now in
    no_cut_step c.loop-index.chart c.args.chart.now ss n c.args.part.first c.args.part.end c.loop-index.position _ c.args.sets.now c.index-sets-index.result
    c.deref.result.now c.loop-index.parts.items c.in_ok-end.field-0
    c.loop-index.invariant.0 c.loop-index-test.true
    (get_or_default ss n _ _ c.loop-index-test.true) c.requires.count c.requires.going_on c.loop-index.invariant.1 c.index-sets-index.is c.deref.ensures.value
    c.in_ok-end.ensures.last c.in_default.is

pub returns-clause-yes : goal.returns-clause-yes
returns-clause-yes c e =
    cut_done c.args.chart.now.normal c.args.chart.now.kinds c.args.symbols.now c.loop-index.index c.args.part.first c.args.part.end c.loop-index.position
    c.loop-index.parts.items (omega (arith, c.requires.some, c.loop-index-test.false)) c.loop-index-test.false c.loop-index.invariant.1

pub last_among-requires : goal.last_among-requires
last_among-requires c =
    let n = c.loop-index.index in
    let at =
    c.deref.ensures.value ∙ set_at_read c.args.sets.now (n + 1) c.index-sets-index.result
    (omega (arith, c.requires.count, c.loop-index-test.true)) c.index-sets-index.is in
    subst IsStrictlyIncreasing (sym at) (c.requires.going_on (n + 1) (omega arith) (omega (arith, c.loop-index-test.true))).rising
