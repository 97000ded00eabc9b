use Rattle.std.proofs.Common.{ℕ, ◌<◌}
use Rattle.grammar_tree.specs.GrammarView.{grammar_of}
use Rattle.grammar_check_faults.specs.LexerFaults.{LexerLoopAt}
use Rattle.grammar_check_faults.proofs.lexer_checks.first_lexer_loop.Given as goal

abbrev pub invariant-loop-index : goal.invariant-loop-index
invariant-loop-index l = (i : ℕ) → i < l.index → ¬ LexerLoopAt (grammar_of l.grammar) i
