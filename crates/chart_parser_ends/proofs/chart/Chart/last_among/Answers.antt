use Rattle.normal_form.specs.Spans.{DerivesSpan}
use Rattle.chart_parser_ends.proofs.Greatest.{last_exactly}
use Rattle.chart_parser_ends.proofs.SymbolEnds.{looked_up, worked_out}
use Rattle.chart_parser_ends.proofs.chart.Chart.last_among.Goals as goal

pub returns-in-Ok-clause-last : goal.returns-in-Ok-clause-last
returns-in-Ok-clause-last c =
    let z = c.args.self.now in
    last_exactly (DerivesSpan z.normal z.kinds c.args.symbol c.args.first) c.in-Ok.ends.now c.args.among.now c.last_common.result
    (looked_up c.self.inside.table.input z c.args.symbol c.args.first c.in-Ok.ends.now c.self.view_is c.in-Ok.ensures.ends) c.last_common.ensures

pub returns-clause-last : goal.returns-clause-last
returns-clause-last c =
    let z = c.args.self.now in
    let ends = c.entry_ends.result.now in
    last_exactly (DerivesSpan z.normal z.kinds c.args.symbol c.args.first) ends c.args.among.now c.last_common-2.result
    (worked_out c.self.inside.table.input c.work_out.new.table.input z c.args.symbol c.in-Err.rule c.args.first ends c.work_out.ensures.same c.self.view_is
    c.in-Err.ensures.missing c.entry_ends.ensures) c.last_common-2.ensures
