use Rattle.std.proofs.Common.{◌≡◌, None, take}
use Rattle.std.specs.Prelude.{find}
use Rattle.std.specs.List.{flat_map}
use Rattle.grammar_check_faults.specs.inner.Unknown.{is_unknown}
use Rattle.grammar_check_faults.proofs.FindForms.{lexer_use}
use Rattle.grammar_check_faults.proofs.unknown.first_unknown_name.Given as goal

abbrev pub invariant-loop-name : goal.invariant-loop-name
invariant-loop-name l = find (is_unknown l.names) (flat_map lexer_use (take l.name-index l.used)) ≡ None
