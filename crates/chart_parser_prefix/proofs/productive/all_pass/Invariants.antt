use Rattle.std.proofs.Common.{◌≡◌, true, take}
use Rattle.std.specs.List.{list_all}
use Rattle.chart_parser_prefix.specs.inner.Productive.{passes}
use Rattle.chart_parser_prefix.proofs.productive.all_pass.Given as goal

abbrev pub invariant-loop-symbol : goal.invariant-loop-symbol
invariant-loop-symbol l = list_all (passes l.normal l.flags) (take l.symbol-index l.symbols) ≡ true
