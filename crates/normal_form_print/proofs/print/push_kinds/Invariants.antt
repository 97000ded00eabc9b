use Rattle.std.proofs.Common.{◌≡◌, ◌++◌, map, drop, string_bytes}
use Rattle.std.specs.Prelude.{codes}
use Rattle.std.specs.List.{flat_map}
use Rattle.grammar_tree.specs.GrammarView.{kind_of}
use Rattle.normal_form_print.specs.inner.Printing.{kind_bytes}
use Rattle.normal_form_print.proofs.print.push_kinds.Given as goal

abbrev pub invariant-loop-number : goal.invariant-loop-number
invariant-loop-number l =
    string_bytes l.text ++ flat_map (λ k. codes "|" ++ kind_bytes (map kind_of l.kinds) k) (drop l.number-index l.number-items)
    ≡ string_bytes l.initial.text ++ flat_map (λ k. codes "|" ++ kind_bytes (map kind_of l.kinds) k) l.number-items
