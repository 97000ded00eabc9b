use Rattle.std.proofs.Common.{◌≡◌, ◌++◌, take}
use Rattle.std.specs.Prelude.{filter, nat_eq}
use Rattle.grammar_check_nodes.specs.Flags.{flag}
use Rattle.normal_form.specs.declared.normal.Sym.{Sym}
use Rattle.compat_table.specs.inner.Rows.{need}
use Rattle.compat_table.proofs.search.push_lone.Given as goal

abbrev pub invariant-loop-symbol : goal.invariant-loop-symbol
invariant-loop-symbol l = l.symbols.items ≡ l.fn.symbols.items ++ filter (λ (s : Sym). nat_eq (need (flag l.flags) s) l.needed) (take l.symbol-index l.alt)
