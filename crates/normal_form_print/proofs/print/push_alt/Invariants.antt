use Rattle.std.proofs.Common.{◌≡◌, ◌++◌, drop, string_bytes}
use Rattle.std.specs.Prelude.{codes}
use Rattle.std.specs.List.{flat_map}
use Rattle.normal_form_print.specs.inner.Printing.{symbol_bytes}
use Rattle.normal_form_print.proofs.print.push_alt.Given as goal

abbrev pub invariant-loop-symbol : goal.invariant-loop-symbol
invariant-loop-symbol l =
    string_bytes l.text ++ flat_map (λ s. codes " " ++ symbol_bytes l.symbols s) (drop l.symbol-index l.symbol-items)
    ≡ string_bytes l.initial.text ++ flat_map (λ s. codes " " ++ symbol_bytes l.symbols s) l.symbol-items
