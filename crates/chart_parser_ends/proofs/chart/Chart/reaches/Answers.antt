use Rattle.normal_form.specs.Spans.{DerivesSpan}
use Rattle.chart_parser_ends.proofs.Exactly.{has_exactly}
use Rattle.chart_parser_ends.proofs.SymbolEnds.{looked_up, worked_out}
use Rattle.chart_parser_ends.proofs.chart.Chart.reaches.Goals as goal

pub returns-in-Ok-clause-answer : goal.returns-in-Ok-clause-answer
returns-in-Ok-clause-answer c =
    let z = c.args.self.now in
    has_exactly (DerivesSpan z.normal z.kinds c.args.symbol c.args.first) c.in-Ok.ends.now c.args.end c.has.result
    (looked_up c.self.inside.table.input z c.args.symbol c.args.first c.in-Ok.ends.now c.self.view_is c.in-Ok.ensures.ends) c.has.ensures

pub returns-clause-answer : goal.returns-clause-answer
returns-clause-answer c =
    let z = c.args.self.now in
    let ends = c.entry_ends.result.now in
    has_exactly (DerivesSpan z.normal z.kinds c.args.symbol c.args.first) ends c.args.end c.has-2.result
    (worked_out c.self.inside.table.input c.work_out.new.table.input z c.args.symbol c.in-Err.rule c.args.first ends c.work_out.ensures.same c.self.view_is
    c.in-Err.ensures.missing c.entry_ends.ensures) c.has-2.ensures
