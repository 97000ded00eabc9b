use Rattle.std.proofs.Common.{◌<◌, ℕ, slice_index_or}
use Rattle.lexer_match.specs.StateSets.{ReadsTo}
use Rattle.lexer.proofs.candidates.is_read.Given as goal

abbrev pub invariant-loop-state : goal.invariant-loop-state
invariant-loop-state l = (k next : ℕ) → k < l.state-index → ¬ ReadsTo l.nfa (slice_index_or l.states k 0) l.c next
