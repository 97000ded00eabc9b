use Rattle.std.proofs.lemmas.Result.{on_ok_weaker}
use Rattle.normal_form.specs.Spans.{DerivesSpan}
use Rattle.chart_parser_ends.proofs.Greatest.{all_up_to, grown_up_to}
use Rattle.chart_parser_ends.proofs.SymbolEnds.{looked_up, worked_out}
use Rattle.chart_parser_ends.proofs.chart.Chart.add_ends.Goals as goal

pub returns-in-Ok-clause-grown : goal.returns-in-Ok-clause-grown
returns-in-Ok-clause-grown c =
    let z = c.args.self.now in
    let ends = c.in-Ok.ends.now in
    let has = looked_up c.self.inside.table.input z c.args.symbol c.args.first ends c.self.view_is c.in-Ok.ensures.ends in
    on_ok_weaker c.add_all.result
    (grown_up_to (DerivesSpan z.normal z.kinds c.args.symbol c.args.first) ends c.up_to.result.now c.args.positions.now.items c.add_all.new.positions.items
    c.args.last has c.up_to.ensures) c.add_all.ensures.grown

pub returns-in-Ok-clause-all : goal.returns-in-Ok-clause-all
returns-in-Ok-clause-all c =
    let z = c.args.self.now in
    let ends = c.in-Ok.ends.now in
    let has = looked_up c.self.inside.table.input z c.args.symbol c.args.first ends c.self.view_is c.in-Ok.ensures.ends in
    on_ok_weaker c.add_all.result
    (all_up_to (DerivesSpan z.normal z.kinds c.args.symbol c.args.first) ends c.up_to.result.now c.add_all.new.positions.items c.args.last has c.up_to.ensures)
    c.add_all.ensures.all

pub returns-clause-grown : goal.returns-clause-grown
returns-clause-grown c =
    let z = c.args.self.now in
    let ends = c.entry_ends.result.now in
    let has =
    worked_out c.self.inside.table.input c.work_out.new.table.input z c.args.symbol c.in-Err.rule c.args.first ends c.work_out.ensures.same c.self.view_is
    c.in-Err.ensures.missing c.entry_ends.ensures in
    on_ok_weaker c.add_all-2.result
    (grown_up_to (DerivesSpan z.normal z.kinds c.args.symbol c.args.first) ends c.up_to-2.result.now c.args.positions.now.items c.add_all-2.new.positions.items
    c.args.last has c.up_to-2.ensures) c.add_all-2.ensures.grown

pub returns-clause-all : goal.returns-clause-all
returns-clause-all c =
    let z = c.args.self.now in
    let ends = c.entry_ends.result.now in
    let has =
    worked_out c.self.inside.table.input c.work_out.new.table.input z c.args.symbol c.in-Err.rule c.args.first ends c.work_out.ensures.same c.self.view_is
    c.in-Err.ensures.missing c.entry_ends.ensures in
    on_ok_weaker c.add_all-2.result
    (all_up_to (DerivesSpan z.normal z.kinds c.args.symbol c.args.first) ends c.up_to-2.result.now c.add_all-2.new.positions.items c.args.last has
    c.up_to-2.ensures)
    c.add_all-2.ensures.all
