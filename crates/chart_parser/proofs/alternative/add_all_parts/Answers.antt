use Rattle.std.proofs.Common.{ℕ, List, subst, sym, length}
use Rattle.std.specs.Global.{Vec}
use Rattle.chart_parser_ends.specs.Input.{ChartInput}
use Rattle.chart_parser.specs.inner.GoingOn.{AreGoingOn, AreReached}
use Rattle.chart_parser.proofs.alternative.add_all_parts.Goals as goal

pub keep_going_on-requires-clause-reached : goal.keep_going_on-requires-clause-reached
keep_going_on-requires-clause-reached c =
    subst (λ (x : ChartInput). AreReached x.normal x.kinds c.args.symbols.now c.args.part.first c.args.part.end
    (length c.args.symbols.now) c.in_ok-sets.sets.items) (sym c.in_ok-sets.ensures.same) c.in_ok-sets.ensures.reached

pub add_parts-requires-clause-going_on : goal.add_parts-requires-clause-going_on
add_parts-requires-clause-going_on c =
    let at =
    subst (λ (l : List (Vec ℕ)). AreGoingOn c.positions_reached.new.chart.normal c.positions_reached.new.chart.kinds c.args.symbols.now c.args.part.first
    c.args.part.end 1 l) (sym c.deref.ensures.value) c.in_ok-keep_going_on.ensures.going_on in
    subst (λ (x : ChartInput). AreGoingOn x.normal x.kinds c.args.symbols.now c.args.part.first c.args.part.end 1 c.deref.result.now)
    (sym c.in_ok-keep_going_on.ensures.same) at
