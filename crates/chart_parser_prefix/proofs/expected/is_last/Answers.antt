use Rattle.std.proofs.Common.{arith, length, subst, ◌-◌}
use Rattle.normal_form.specs.declared.normal.Sym.TheVariants.{Kind}
use Rattle.std.proofs.lemmas.List.Elements.{Contains-get_or}
use Rattle.std.specs.List.{Contains}
use Rattle.chart_parser_prefix.proofs.expected.is_last.Goals as goal

pub returns : goal.returns
returns c t =
    let symbols = c.args.symbols.now in
    subst (Contains symbols) (c.is_same.ensures.0 t) (Contains-get_or symbols (length symbols - 1) (Kind 0) (omega (arith, c.if-count-eq0.false)))
