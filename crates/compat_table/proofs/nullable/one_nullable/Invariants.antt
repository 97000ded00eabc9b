use Rattle.std.proofs.Common.{◌≡◌, false, take}
use Rattle.std.specs.Global.{Vec}
use Rattle.std.specs.List.{list_all, list_any}
use Rattle.normal_form.specs.declared.normal.Sym.{Sym}
use Rattle.grammar_check_nodes.specs.Flags.{flag}
use Rattle.compat_table.specs.Nullable.{is_nullable}
use Rattle.compat_table.proofs.nullable.one_nullable.Given as goal

abbrev pub invariant-loop-symbols : goal.invariant-loop-symbols
invariant-loop-symbols l = list_any (λ (a : Vec Sym). list_all (is_nullable (flag l.flags)) a.items) (take l.symbols-index l.alternatives) ≡ false
