use Rattle.std.proofs.Common.{◌≡◌, take}
use Rattle.std.specs.List.{flat_map}
use Rattle.grammar_check_nodes.specs.Flags.{flag}
use Rattle.normal_form.specs.View.{alts_form}
use Rattle.compat_table.specs.inner.Rows.{lone_symbols}
use Rattle.compat_table.proofs.search.lone_among.Given as goal

abbrev pub invariant-loop-alt : goal.invariant-loop-alt
invariant-loop-alt l = l.symbols.items ≡ flat_map (lone_symbols (flag l.flags)) (alts_form (take l.alt-index l.alts))
