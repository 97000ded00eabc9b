use Rattle.std.proofs.Common.{subst}
use Rattle.normal_form.specs.declared.normal.Sym.TheVariants.{Rule}
use Rattle.normal_form.specs.Spans.{DerivesSpan}
use Rattle.chart_parser_ends.specs.Positions.{HasExactly}
use Rattle.chart_parser_ends.proofs.SymbolEnds.{entry_exact}
use Rattle.chart_parser_ends.proofs.table.ChartTable.rule_ends.Goals as goal

pub returns-in-Some-find-clause-ends : goal.returns-in-Some-find-clause-ends
returns-in-Some-find-clause-ends c =
    let N = c.self.inside.normal.now in
    let K = c.self.inside.kinds.now in
    let i = c.args.first in
    let ends = c.in-Some-find.ends.now in
    subst (λ x. HasExactly (DerivesSpan x.input.normal x.input.kinds (Rule c.args.rule) i) ends) c.self.view_is
    (entry_exact N K c.self.inside.entries c.args.rule i ends c.self.invariant.exact c.in-Some-find.ensures.found)
