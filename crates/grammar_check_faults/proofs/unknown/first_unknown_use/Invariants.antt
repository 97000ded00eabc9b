use Rattle.std.proofs.Common.{◌≡◌, None, take}
use Rattle.std.specs.Prelude.{find}
use Rattle.std.specs.List.{flat_map}
use Rattle.grammar_tree.specs.Faults.{rule_uses}
use Rattle.grammar_tree.specs.GrammarView.{rule_of}
use Rattle.grammar_check_faults.specs.inner.Unknown.{is_unknown}
use Rattle.grammar_check_faults.proofs.unknown.first_unknown_use.Given as goal

abbrev pub invariant-loop-rule : goal.invariant-loop-rule
invariant-loop-rule l = find (is_unknown l.names) (flat_map (λ r. rule_uses (rule_of r)) (take l.rule-index l.rules)) ≡ None
