use Rattle.std.proofs.Common.{ℕ, ◌≤◌, ◌<◌, ◌-◌, slice_index_or}
use Rattle.lexer.specs.declared.piece.Piece.{Piece}
use Rattle.token_print.proofs.joins.first_beyond.Given as goal

abbrev pub invariant-loop-at : goal.invariant-loop-at
invariant-loop-at l = record {
  low : l.among.first ≤ l.at;
  near : (k : ℕ) (d : Piece) → l.among.first ≤ k → k < l.at → k < l.among.end → (slice_index_or l.pieces.items.items k d).seen ≤ l.limit;
}

abbrev pub decreases-loop-at : goal.decreases-loop-at
decreases-loop-at l = l.among.end - l.at
