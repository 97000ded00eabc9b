use Rattle.std.proofs.Common.{◌≡◌, ◌+◌, drop}
use Rattle.grammar_check_nodes.specs.Flags.{flag}
use Rattle.compat_table.specs.inner.Rows.{needed}
use Rattle.compat_table.proofs.search.count_needed.Given as goal

abbrev pub invariant-loop-symbol : goal.invariant-loop-symbol
invariant-loop-symbol l = l.count + needed (flag l.flags) (drop l.symbol-index l.symbols) ≡ needed (flag l.flags) l.symbols
