use Rattle.std.proofs.Common.{◌≡◌, true, take}
use Rattle.std.specs.List.{list_all}
use Rattle.grammar_check_nodes.specs.Flags.{flag}
use Rattle.compat_table.specs.Nullable.{is_nullable}
use Rattle.compat_table.proofs.nullable.all_nullable.Given as goal

abbrev pub invariant-loop-symbol : goal.invariant-loop-symbol
invariant-loop-symbol l = list_all (is_nullable (flag l.flags)) (take l.symbol-index l.symbols) ≡ true
