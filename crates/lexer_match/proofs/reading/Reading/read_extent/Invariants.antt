use Rattle.std.proofs.Common.{◌≡◌, length}
use Rattle.std.specs.List.{Contains}
use Rattle.std.specs.Str.Iter.{chars_rest}
use Rattle.lexer_match.specs.declared.dead.SetAt.{SetAt}
use Rattle.lexer_match.specs.Reading.{IsReady}
use Rattle.lexer_match.specs.inner.StateSets.{IsFollowed}
use Rattle.lexer_match.proofs.Best.{IsSoFar}
use Rattle.lexer_match.proofs.Traced.{IsTraced}
use Rattle.lexer_match.proofs.reading.Reading.read_extent.Given as goal

abbrev pub invariant-loop-rest : goal.invariant-loop-rest
invariant-loop-rest l = record {
  ready : IsReady (length l.nfa) l.self;
  followed : IsFollowed l.nfa l.self.current.states.items;
  dead : l.self.dead ≡ l.initial.self.dead;
  traced : (p : SetAt) → Contains l.self.trace.items p → IsTraced l.nfa l.text l.self.current.states.items (chars_rest l.rest) p;
  so_far : IsSoFar l.nfa l.alternative l.text l.self.current.states.items (chars_rest l.rest) l.read l.longest;
}

abbrev pub decreases-loop-rest : goal.decreases-loop-rest
decreases-loop-rest l = length (chars_rest l.rest)
