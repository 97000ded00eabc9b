use Rattle.std.proofs.Common.{◌≡◌, ◌++◌, ◌-◌}
use Rattle.normal_form.specs.NormalOf.{new_names}
use Rattle.normal_form_build.proofs.rule_names.push_names.Given as goal

abbrev pub invariant-loop-number : goal.invariant-loop-number
invariant-loop-number l = l.names.items ≡ l.initial.names.items ++ new_names l.name 1 (l.number - 1)
