-- Lines without their newlines, and wishes.
use Rattle.std.proofs.Common.{◌≡◌, ℕ, List, [], ◌∷◌, ◌++◌, refl, ap}
use Rattle.std.proofs.lemmas.Bool.{cond-false, ne_eqb}
use Rattle.std.proofs.Math.Bool.{and-true}
use Rattle.std.specs.Prelude.{◌==◌}
use Rattle.keep_guard.specs.Keep.{holds_all, occurs}
use Rattle.line_guard.specs.Protected.{without_newline}

pub newline-taken : (front : List ℕ) → without_newline (front ++ 10 ∷ []) ≡ front
newline-taken [] = refl
newline-taken (byte ∷ []) = refl
newline-taken (byte ∷ (next ∷ front)) = ap (λ (l : List ℕ). byte ∷ l) (newline-taken (next ∷ front))

pub other-left : (front : List ℕ) (last : ℕ) → (last ≡ 10 → ⊥) → without_newline (front ++ last ∷ []) ≡ front ++ last ∷ []
other-left [] last differs = cond-false (last == 10) [] (last ∷ []) (ne_eqb last 10 differs)
other-left (byte ∷ []) last differs = ap (λ (l : List ℕ). byte ∷ l) (cond-false (last == 10) [] (last ∷ []) (ne_eqb last 10 differs))
other-left (byte ∷ (next ∷ front)) last differs = ap (λ (l : List ℕ). byte ∷ l) (other-left (next ∷ front) last differs)

-- one text is held where it occurs
pub one-held : (text line : List ℕ) → holds_all (text ∷ []) line ≡ occurs text line
one-held text line = and-true (occurs text line)
