use Rattle.std.proofs.Common.{◌≡◌, map, take}
use Rattle.normal_form.specs.View.{rule_form}
use Rattle.normal_form.proofs.normal.copy_rules.Given as goal

abbrev pub invariant-loop-rule : goal.invariant-loop-rule
invariant-loop-rule l = map rule_form l.copies.items ≡ map rule_form (take l.rule-index l.rules)
