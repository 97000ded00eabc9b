use Rattle.std.proofs.Common.{◌<◌, ◌≤◌, ◌+◌, ◌-◌, ℕ, List, length, slice_index_or}
use Rattle.std.specs.List.{Contains}
use Rattle.lexer_match.specs.StateSets.{ReadsFrom}
use Rattle.lexer_match.specs.inner.StateSets.{GoesTo, HasGrown, unmarked}
use Rattle.lexer_match.proofs.state_set.StateSet.follow.Given as goal

abbrev pub invariant-loop-index : goal.invariant-loop-index
invariant-loop-index l = record {
  grown : HasGrown l.initial.self.states.items l.self.states.items l.initial.self.marks.items l.self.marks.items;
  sound : (w : List ℕ) → ReadsFrom l.nfa l.self.states.items w → ReadsFrom l.nfa l.initial.self.states.items w;
  done : (k next : ℕ) → k < l.index → GoesTo l.nfa (slice_index_or l.self.states.items k 0) next → Contains l.self.states.items next;
  within : l.index ≤ length l.self.states.items;
}

abbrev pub decreases-loop-index : goal.decreases-loop-index
decreases-loop-index l = unmarked l.self.marks.items + length l.self.states.items - l.index
