use Rattle.std.proofs.Common.{◌≡◌, ◌⊎◌, length}
use Rattle.std.specs.List.{Contains}
use Rattle.lexer_match.specs.declared.dead.DeadSet.{DeadSet}
use Rattle.lexer_match.specs.declared.dead.SetAt.{SetAt}
use Rattle.lexer_match.specs.Dead.{HasDead}
use Rattle.lexer_match.proofs.reading.Reading.keep_dead.Given as goal

abbrev pub invariant-loop-set : goal.invariant-loop-set
invariant-loop-set l = record {
  current : l.self.current ≡ l.initial.self.current;
  next : l.self.next ≡ l.initial.self.next;
  among : (p : SetAt) → Contains l.self.trace.items p → Contains l.initial.self.trace.items p;
  added : (d : DeadSet) → HasDead l.self.dead d → HasDead l.initial.self.dead d ⊎ (Contains l.initial.self.trace.items d.set × (d.seen ≡ l.seen));
}

abbrev pub decreases-loop-set : goal.decreases-loop-set
decreases-loop-set l = length l.self.trace.items
