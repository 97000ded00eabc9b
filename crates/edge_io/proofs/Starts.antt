use Rattle.std.proofs.Common.{◌≡◌, ℕ, zero, suc, List, [], ◌∷◌, length, take, ap, ◌∙◌}
use Rattle.std.specs.Prelude.{min}
use Rattle.std.proofs.Math.Nat.{min-zero, suc-min-suc, zero-min}

-- the first elements, as many as there are at most
pub take_min : {X : Type 0} (n : ℕ) (xs : List X) → take (min n (length xs)) xs ≡ take n xs
take_min zero xs = ap (λ k. take k xs) (zero-min (length xs))
take_min (suc n) [] = ap (λ k. take k []) (min-zero (suc n))
take_min (suc n) (x ∷ xs) = ap (λ k. take k (x ∷ xs)) (suc-min-suc n (length xs)) ∙ ap (λ r. x ∷ r) (take_min n xs)
