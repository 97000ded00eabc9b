use Rattle.std.proofs.Common.{◌≡◌, ◌++◌, drop, string_bytes}
use Rattle.std.specs.Prelude.{codes}
use Rattle.std.specs.List.{flat_map, join_by}
use Rattle.normal_form_print.specs.inner.Printing.{symbol_bytes}
use Rattle.normal_form.specs.View.{alts_form}
use Rattle.normal_form_print.proofs.print.push_alts.Given as goal

abbrev pub invariant-loop-alt : goal.invariant-loop-alt
invariant-loop-alt l =
    string_bytes l.text ++ flat_map (λ alt. codes " | " ++ join_by (symbol_bytes l.symbols) (codes " ") alt) (alts_form (drop l.alt-index l.alt-items))
    ≡ string_bytes l.initial.text ++ flat_map (λ alt. codes " | " ++ join_by (symbol_bytes l.symbols) (codes " ") alt) (alts_form l.alt-items)
