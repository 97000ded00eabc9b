-- The list of all positions, of which single ones are lent.
use Rattle.std.proofs.Common.{◌≡◌, ℕ, zero, suc, ◌<◌, ◌≤◌, List, [], ◌∷◌, length, take, drop, Some, slice_get, ap, ◌∙◌}
use Rattle.chart_parser_ends.specs.inner.Positions.{ArePositionsTo}

one_taken : (xs : List ℕ) (i x : ℕ) → slice_get xs i ≡ Some x → take 1 (drop i xs) ≡ x ∷ []
one_taken [] i x e = absurd (cc)
one_taken (y ∷ xs) zero x e = ap (λ z. z ∷ []) (same y x e)
  where
    same : (y x : ℕ) → Some y ≡ Some x → y ≡ x
    same y x e = cc
one_taken (y ∷ xs) (suc i) x e = one_taken xs i x e

pub one_position : (n : ℕ) (xs : List ℕ) (i m : ℕ) → ArePositionsTo n xs → i ≤ n → m ≡ 1 → take m (drop i xs) ≡ i ∷ []
one_position n xs i m p l e = ap (λ k. take k (drop i xs)) e ∙ one_taken xs i i (p.each i l)

-- The first positions, fewer than n.
abbrev pub AreFirst : ℕ → List ℕ → Type 0
AreFirst n xs = (length xs ≡ n) × ((i : ℕ) → i < n → slice_get xs i ≡ Some i)
