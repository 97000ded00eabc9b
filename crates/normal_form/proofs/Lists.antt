-- Membership in a list.
use Rattle.std.proofs.Common.{◌≡◌, zero, suc, ◌⊎◌, inl, inr, List, [], ◌∷◌, refl, arith, sym}
use Rattle.std.specs.List.{Contains}

pub Contains-nil : {X : Type 0} (x : X) → Contains [] x → ⊥
Contains-nil x h = absurd (omega (arith, h.1))

pub Contains-here : {X : Type 0} (x : X) (xs : List X) → Contains (x ∷ xs) x
Contains-here x xs = (0, omega arith, refl)

pub Contains-there : {X : Type 0} (x y : X) (xs : List X) → Contains xs x → Contains (y ∷ xs) x
Contains-there x y xs (k, h, e) = (suc k, omega arith, e)

pub Contains-cases : {X : Type 0} (x y : X) (xs : List X) → Contains (y ∷ xs) x → (x ≡ y) ⊎ Contains xs x
Contains-cases x y xs (zero, h, e) = inl (sym e)
Contains-cases x y xs (suc k, h, e) = inr (k, omega arith, e)

pub Contains-only : {X : Type 0} (x y : X) → Contains (y ∷ []) x → x ≡ y
Contains-only x y c = go (Contains-cases x y [] c)
  where
    go : (x ≡ y) ⊎ Contains [] x → x ≡ y
    go (inl e) = e
    go (inr h) = absurd (Contains-nil x h)
