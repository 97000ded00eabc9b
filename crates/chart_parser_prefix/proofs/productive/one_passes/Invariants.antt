use Rattle.std.proofs.Common.{◌≡◌, false, take}
use Rattle.std.specs.Global.{Vec}
use Rattle.std.specs.List.{list_all, list_any}
use Rattle.normal_form.specs.declared.normal.Sym.{Sym}
use Rattle.chart_parser_prefix.specs.inner.Productive.{passes}
use Rattle.chart_parser_prefix.proofs.productive.one_passes.Given as goal

abbrev pub invariant-loop-symbols : goal.invariant-loop-symbols
invariant-loop-symbols l = list_any (λ (a : Vec Sym). list_all (passes l.normal l.flags) a.items) (take l.symbols-index l.alternatives) ≡ false
