use Rattle.std.proofs.Common.{◌≡◌, ◌<◌, ◌≤◌, ℕ, Some, length, slice_get}
use Rattle.std.specs.List.{Contains}
use Rattle.std.specs.Str.{chars}
use Rattle.lexer_match.specs.declared.alternative.Alternative.{Alternative}
use Rattle.lexer_match.specs.Dead.{StayDead}
use Rattle.lexer_match.specs.Longest.{IsLongestLen}
use Rattle.lexer_match.specs.Reading.{IsRead, IsReady}
use Rattle.lexer_match.specs.Seen.{IsSeenTo}
use Rattle.lexer.proofs.Farther.{IsMatchedBelow}
use Rattle.lexer.proofs.pieces.best_match.Given as goal

abbrev pub invariant-loop-alternative : goal.invariant-loop-alternative
invariant-loop-alternative l = record {
  ready : IsReady (length l.nfa) l.reading;
  dead : StayDead l.nfa l.text l.initial.reading.dead l.reading.dead;
  each : (k : ℕ) (a : Alternative) → k < l.alternative-index → slice_get l.alternatives k ≡ Some a → (n : ℕ) × IsLongestLen (IsRead l.nfa a) (chars l.text) n
      × (n ≤ l.best.len) × (n ≡ l.best.len → 0 < l.best.len → l.best.kind ≤ a.kind);
  some : 0 < l.best.len → (a : Alternative) × Contains l.alternatives a × (a.kind ≡ l.best.kind) × IsLongestLen (IsRead l.nfa a) (chars l.text) l.best.len;
  seen : IsSeenTo (IsMatchedBelow l.nfa l.alternatives l.alternative-index) (chars l.text) l.seen;
}
