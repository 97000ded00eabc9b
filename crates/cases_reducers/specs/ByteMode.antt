-- A mode for tests: the state is a text whose first byte is a mark. The mark is changed once at first, to byte 9;
-- a round deletes byte by byte after the mark, from left to right; the mark alone isn't listed.
use Rattle.std.specs.Prelude.{◌≡◌, ◌+◌, ◌-◌, ◌<◌, ◌≤◌, ℕ, zero, suc, List, ◌∷◌, None, length, remove, drop, nat_lt}
use Rattle.reduce_rounds.specs.Trials.{Trials, Done, Try}
use Rattle.reduce_rounds.specs.Mode.{RoundMode}

-- so many deletions of one byte, from a position on
abbrev pub deletions_from : ℕ → List ℕ → ℕ → Trials (List ℕ)
deletions_from zero text at = Done
deletions_from (suc n) text at = Try (remove text at) (deletions_from n (remove text at) at) (deletions_from n text (at + 1))

abbrev pub byte_mode : List ℕ → RoundMode (List ℕ)
byte_mode start = record {
  start = start;
  text = λ text. text;
  is_listed = λ text. nat_lt 1 (length text);
  size = λ text. length text;
  opening = Try (9 ∷ drop 1 start) Done Done;
  round = λ text. deletions_from (length text - 1) text 1;
  measure = λ text. length text;
  next_phase = λ text. None;
}

-- the text has at most as many bytes after the mark as the start
abbrev pub IsNoLonger : List ℕ → List ℕ → Type 0
IsNoLonger start text = length text - 1 ≤ length start - 1

-- one byte after the mark is deleted
abbrev pub IsByteEdit : List ℕ → List ℕ → Type 0
IsByteEdit text other = (k : ℕ) × (1 ≤ k) × (k < length text) × (other ≡ remove text k)
