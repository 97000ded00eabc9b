use Rattle.std.proofs.Common.{ℕ, ◌<◌}
use Rattle.grammar_tree.specs.Faults.{EmptyToken}
use Rattle.grammar_tree.specs.GrammarView.{grammar_of}
use Rattle.grammar_check_faults.proofs.lexer_checks.first_empty_token.Given as goal

abbrev pub invariant-loop-index : goal.invariant-loop-index
invariant-loop-index l = (i : ℕ) → i < l.index → ¬ EmptyToken (grammar_of l.grammar) i
