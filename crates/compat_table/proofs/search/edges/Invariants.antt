use Rattle.std.proofs.Common.{◌≡◌, map, take}
use Rattle.grammar_check_nodes.specs.Flags.{flag}
use Rattle.normal_form.specs.View.{rule_form}
use Rattle.compat_table.specs.inner.Rows.{next_symbols}
use Rattle.compat_table.specs.inner.View.{edges_of}
use Rattle.compat_table.proofs.search.edges.Given as goal

abbrev pub invariant-loop-rule : goal.invariant-loop-rule
invariant-loop-rule l = edges_of l.edges.items ≡ map (next_symbols (flag l.flags)) (map rule_form (take l.rule-index l.rules))
