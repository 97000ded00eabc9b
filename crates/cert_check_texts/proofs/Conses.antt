-- The first and the others of lists that are equal, and that no list with a first is empty.
use Rattle.std.proofs.Common.{◌≡◌, List, [], ◌∷◌}

pub head_of : {X : Type 0} {x y : X} {xs ys : List X} → (x ∷ xs) ≡ (y ∷ ys) → x ≡ y
head_of e = cc e

pub tail_of : {X : Type 0} {x y : X} {xs ys : List X} → (x ∷ xs) ≡ (y ∷ ys) → xs ≡ ys
tail_of e = cc e

pub nothing_is : {X : Type 0} {x : X} {xs : List X} → [] ≡ (x ∷ xs) → ⊥
nothing_is e = absurd (cc e)
