use Rattle.std.proofs.Common.{length, subst, arith}
use Rattle.chart_parser_ends.specs.inner.Firsts.{AreClosed}
use Rattle.chart_parser_ends.proofs.FirstKinds.{closed_firsts}
use Rattle.chart_parser_ends.proofs.FirstRows.{few_cells}
use Rattle.chart_parser_ends.proofs.firsts.first_rows.Goals as goal

pub returns-then-branch-clause-firsts : goal.returns-then-branch-clause-firsts
returns-then-branch-clause-firsts c =
    let N = c.args.normal.now in
    let rows = c.in_ok-rows.rows.items in
    closed_firsts N rows (subst (AreClosed N) c.deref.ensures.value (c.in_ok-are_closed.ensures c.if-branch.true))

pub returns-then-branch-clause-small : goal.returns-then-branch-clause-small
returns-then-branch-clause-small c =
    few_cells c.in_ok-rows.rows.items c.args.kinds (length c.args.normal.now.rules) c.size_of.result 4194304 c.in_ok-rows.ensures.cells
    c.in_ok-rows.ensures.len c.size_of.ensures (omega arith)
