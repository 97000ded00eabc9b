use Rattle.std.proofs.Common.{◌≡◌, None, take}
use Rattle.std.specs.Prelude.{find}
use Rattle.std.specs.List.{flat_map}
use Rattle.grammar_check_faults.specs.inner.Unknown.{is_unknown}
use Rattle.grammar_check_faults.proofs.FindForms.{reference_use}
use Rattle.grammar_check_faults.proofs.unknown.first_unknown_reference.Given as goal

abbrev pub invariant-loop-reference : goal.invariant-loop-reference
invariant-loop-reference l = find (is_unknown l.names) (flat_map reference_use (take l.reference-index l.references)) ≡ None
