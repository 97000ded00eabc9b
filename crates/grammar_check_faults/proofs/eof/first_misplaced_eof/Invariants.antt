use Rattle.std.proofs.Common.{ℕ, ◌<◌}
use Rattle.grammar_tree.specs.Faults.{EofPlace}
use Rattle.grammar_tree.specs.GrammarView.{grammar_of}
use Rattle.grammar_check_faults.proofs.eof.first_misplaced_eof.Given as goal

abbrev pub invariant-loop-index : goal.invariant-loop-index
invariant-loop-index l = (i : ℕ) → i < l.index → ¬ EofPlace (grammar_of l.grammar) l.start i
