-- The kinds and spellings of a respelling in which one spelling is changed.
use Rattle.std.proofs.Common.{◌≡◌, ◌≢◌, ◌<◌, ◌≤◌, ℕ, zero, suc, List, [], ◌∷◌, Some, length, take, drop, refl, ap, arith}
use Rattle.std.specs.Prelude.{slice_get}
use Rattle.std.specs.Option.{option_map_or}
use Rattle.std.specs.Str.{chars}
use Rattle.std.proofs.lemmas.Option.{none-some, same_Some}
use Rattle.grammar_tree.specs.Lexes.{Piece, PlacedToken}
use Rattle.spell_shrink.specs.Respelling.{Respelling, kind_at, with_word_at, word_at}
use Rattle.spell_shrink.specs.Texts.{respelled_pieces}

-- the first one of a list
abbrev text_of_first : List Piece → List ℕ
text_of_first l = option_map_or (λ (p : Piece). p.text) (slice_get l 0) []

module _ (tokens : List PlacedToken) (word : List ℕ) where
  -- those before it are as before
  pub same_before : (r : Respelling) (i k : ℕ) → k ≤ i → take k (respelled_pieces tokens (with_word_at r i word)) ≡ take k (respelled_pieces tokens r)
  same_before [] i k low = refl
  same_before (p ∷ r) i zero low = refl
  same_before (p ∷ r) zero (suc k) low = absurd (omega (arith, low))
  same_before (p ∷ r) (suc i) (suc k) low =
      ap (λ (l : List Piece). record { kind = kind_at tokens p.number; text = chars p.word } ∷ l) (same_before r i k (omega (arith, low)))

  -- and those after it
  pub same_after : (r : Respelling) (i k : ℕ) → i < k → drop k (respelled_pieces tokens (with_word_at r i word)) ≡ drop k (respelled_pieces tokens r)
  same_after [] i k high = refl
  same_after (p ∷ r) i zero high = absurd (omega (arith, high))
  same_after (p ∷ r) zero (suc k) high = refl
  same_after (p ∷ r) (suc i) (suc k) high = same_after r i k (omega (arith, high))

  -- it is not, where its characters are others
  pub other_taken : (r : Respelling) (i k : ℕ) → i < k → i < length r → chars word ≢ chars (word_at r i)
      → take k (respelled_pieces tokens (with_word_at r i word)) ≢ take k (respelled_pieces tokens r)
  other_taken [] i k high less other = absurd (omega (arith, less))
  other_taken (p ∷ r) i zero high less other = absurd (omega (arith, high))
  other_taken (p ∷ r) zero (suc k) high less other = λ same. other (ap text_of_first same)
  other_taken (p ∷ r) (suc i) (suc k) high less other =
      λ same. other_taken r i k (omega (arith, high)) (omega (arith, less)) other (ap (drop 1) same)

  pub other_dropped : (r : Respelling) (i k : ℕ) → k ≤ i → i < length r → chars word ≢ chars (word_at r i)
      → drop k (respelled_pieces tokens (with_word_at r i word)) ≢ drop k (respelled_pieces tokens r)
  other_dropped [] i k low less other = absurd (omega (arith, less))
  other_dropped (p ∷ r) zero zero low less other = λ same. other (ap text_of_first same)
  other_dropped (p ∷ r) zero (suc k) low less other = absurd (omega (arith, low))
  other_dropped (p ∷ r) (suc i) zero low less other =
      λ same. other_dropped r i zero (omega arith) (omega (arith, less)) other (ap (drop 1) same)
  other_dropped (p ∷ r) (suc i) (suc k) low less other = other_dropped r i k (omega (arith, low)) (omega (arith, less)) other

-- ---- the next one of a list

pub next_of : (pieces : List Piece) (k : ℕ) (p : Piece) → slice_get pieces k ≡ Some p → drop k pieces ≡ p ∷ drop (suc k) pieces
next_of [] k p is = absurd (none-some p is)
next_of (q ∷ pieces) zero p is = ap (λ (x : Piece). x ∷ pieces) (same_Some q p is)
next_of (q ∷ pieces) (suc k) p is = next_of pieces k p is

pub is_next : (pieces : List Piece) (k : ℕ) (p : Piece) (rest : List Piece) → drop k pieces ≡ p ∷ rest → slice_get pieces k ≡ Some p
is_next [] zero p rest same = absurd (cc same)
is_next [] (suc k) p rest same = absurd (cc same)
is_next (q ∷ pieces) zero p rest same = ap (λ (l : List Piece). slice_get l 0) same
is_next (q ∷ pieces) (suc k) p rest same = is_next pieces k p rest same
