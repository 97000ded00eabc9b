use Rattle.grammar_tree.specs.GrammarView.{grammar_of}
use Rattle.grammar_check_faults.specs.inner.Twins.{AreFirstSoFar}
use Rattle.grammar_check_faults.proofs.rule_checks.first_twin.Given as goal

abbrev pub invariant-loop-index : goal.invariant-loop-index
invariant-loop-index l = AreFirstSoFar (grammar_of l.grammar) l.first l.index
