use Rattle.std.proofs.Common.{arith, sym, ◌∙◌}
use Rattle.chart_parser_prefix.proofs.Growing.{done_before}
use Rattle.normal_form.specs.declared.normal.Sym.TheVariants.{Kind}
use Rattle.chart_parser_prefix.proofs.search.is_done.Goals as goal

pub returns : goal.returns
returns c t =
    done_before c.args.symbols.now c.args.done c.in-Some.place c.args.symbol (Kind 0) c.if-place-done.false (omega (arith, c.requires))
    (c.is_same.ensures.0 t ∙ sym c.in-Rule.is)
