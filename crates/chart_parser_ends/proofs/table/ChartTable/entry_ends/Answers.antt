use Rattle.std.proofs.Common.{ap, subst, sym}
use Rattle.normal_form.specs.declared.normal.Sym.TheVariants.{Rule}
use Rattle.normal_form.specs.Spans.{DerivesSpan}
use Rattle.chart_parser_ends.specs.Positions.{HasExactly}
use Rattle.chart_parser_ends.specs.inner.Entries.{HasEntry}
use Rattle.chart_parser_ends.specs.inner.Filled.{Filled}
use Rattle.chart_parser_ends.proofs.SymbolEnds.{entry_exact}
use Rattle.chart_parser_ends.proofs.table.ChartTable.entry_ends.Goals as goal

pub unreachable-requires : goal.unreachable-requires
unreachable-requires c =
    c.in-None.ensures.none
    (subst (λ es. HasEntry es c.args.rule c.args.first) (sym (ap (λ (f : Filled). f.entries) c.self.view_is)) c.requires)

pub returns : goal.returns
returns c =
    let N = c.self.inside.normal.now in
    let K = c.self.inside.kinds.now in
    let i = c.args.first in
    let ends = c.in-Some.ends.now in
    subst (λ x. HasExactly (DerivesSpan x.input.normal x.input.kinds (Rule c.args.rule) i) ends) c.self.view_is
    (entry_exact N K c.self.inside.entries c.args.rule i ends c.self.invariant.exact c.in-Some.ensures.found)
