use Rattle.std.proofs.Common.{ℕ, ◌<◌}
use Rattle.grammar_tree.specs.Faults.{ShortUse}
use Rattle.grammar_tree.specs.GrammarView.{grammar_of}
use Rattle.grammar_check_faults.proofs.rule_checks.first_short_use.Given as goal

abbrev pub invariant-loop-index : goal.invariant-loop-index
invariant-loop-index l = (i : ℕ) → i < l.index → ¬ ShortUse (grammar_of l.grammar) i
