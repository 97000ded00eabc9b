use Rattle.std.proofs.Common.{◌≡◌, ℕ, true, false, length, slice_index_or}
use Rattle.std.specs.List.{Contains}
use Rattle.lexer_match.proofs.state_set.StateSet.clear.Given as goal

abbrev pub invariant-loop-state : goal.invariant-loop-state
invariant-loop-state l = record {
  size : length l.self.marks.items ≡ length l.initial.self.marks.items;
  exact : (n : ℕ) → slice_index_or l.self.marks.items n false ≡ true → Contains l.self.states.items n;
  inside : (n : ℕ) → Contains l.self.states.items n → Contains l.initial.self.states.items n;
}

abbrev pub decreases-loop-state : goal.decreases-loop-state
decreases-loop-state l = length l.self.states.items
