use Rattle.std.proofs.Common.{◌≡◌, ◌++◌, map, drop, string_bytes}
use Rattle.normal_form_print.specs.Print.{lines_from}
use Rattle.normal_form_print.specs.inner.Printing.{symbol_bytes}
use Rattle.normal_form.specs.View.{rule_form}
use Rattle.normal_form_print.proofs.print.push_lines.Given as goal

abbrev pub invariant-loop-number : goal.invariant-loop-number
invariant-loop-number l =
    string_bytes l.text ++ lines_from (symbol_bytes l.symbols) l.number (map rule_form (drop l.number l.rules))
    ≡ string_bytes l.initial.text ++ lines_from (symbol_bytes l.symbols) 0 (map rule_form l.rules)
