-- The first of a slice's items, in a loop that goes over the rest of them.
use Rattle.std.proofs.Common.{◌≡◌, ◌≤◌, ◌-◌, Bool, false, cond, List, [], ◌∷◌, ◌++◌, None, length, take, drop, get_or, refl, ap, sym, ◌∙◌, arith}
use Rattle.std.specs.Prelude.{filter}
use Rattle.std.proofs.lemmas.List.{take_all}
use Rattle.grammar_pair.specs.Joined.{first}

-- the items are the first one and the rest
pub next_item : {A : Type 0} (items : List A) (x : A) → 1 ≤ length items → x ≡ get_or items 0 x → items ≡ x ∷ take (length items - 1) (drop 1 items)
next_item [] x some is = absurd (omega (arith, some))
next_item (y ∷ ys) x some is = ap (λ z. z ∷ ys) (sym is) ∙ ap (λ l. x ∷ l) (sym (take_all (length (y ∷ ys) - 1) ys (omega arith)))

-- an item that doesn't pass isn't the first that does
pub passed : {A : Type 0} (p : A → Bool) (items : List A) (x : A) → 1 ≤ length items → x ≡ get_or items 0 x → p x ≡ false
    → first (filter p (take (length items - 1) (drop 1 items))) ≡ first (filter p items)
passed p items x some is fails =
    let rest = take (length items - 1) (drop 1 items) in
    sym (ap (λ l. first (filter p l)) (next_item items x some is) ∙ ap (λ b. first (cond b (x ∷ filter p rest) (filter p rest))) fails)

pub first_after : {A : Type 0} (xs ys : List A) → first xs ≡ None → first (xs ++ ys) ≡ first ys
first_after [] ys e = refl
first_after (x ∷ xs) ys e = cc e
