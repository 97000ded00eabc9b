use Rattle.std.proofs.Common.{◌≡◌, ◌↔◌, ℕ, length}
use Rattle.std.specs.List.{Contains}
use Rattle.lexer_match.specs.StateSets.{AreMarked}
use Rattle.lexer_match.proofs.Steps.{UpTo}
use Rattle.lexer_match.proofs.state_set.StateSet.add_after.Given as goal

abbrev pub invariant-loop-state : goal.invariant-loop-state
invariant-loop-state l = record {
  size : length l.self.marks.items ≡ length l.initial.self.marks.items;
  marked : AreMarked l.self.states.items l.self.marks.items;
  after : (n : ℕ) → Contains l.self.states.items n ↔ UpTo l.nfa l.before l.c l.state-index n;
}
