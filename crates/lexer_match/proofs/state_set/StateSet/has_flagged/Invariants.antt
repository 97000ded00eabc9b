use Rattle.std.proofs.Common.{◌≡◌, ◌<◌, ℕ, false, slice_index_or}
use Rattle.lexer_match.proofs.state_set.StateSet.has_flagged.Given as goal

abbrev pub invariant-loop-state : goal.invariant-loop-state
invariant-loop-state l = record {
  none : (k : ℕ) → k < l.state-index → slice_index_or l.flags (slice_index_or l.self.states.items k 0) false ≡ false;
}
