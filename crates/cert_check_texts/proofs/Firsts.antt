-- The first pairs at each offset, with one pair more.
use Rattle.std.proofs.Common.{◌≡◌, ◌⊎◌, inl, inr, ◌++◌, List, [], ◌∷◌, arith, refl, sym, ◌∙◌, subst}
use Rattle.std.specs.List.{Contains}
use Rattle.std.proofs.lemmas.List.Elements.{Contains-append_left, Contains-push, Contains-push_cases}
use Rattle.cert_check_texts.specs.inner.Reached.{AreFirst, HasFirst}
use Rattle.cert_check_texts.specs.declared.reached.Reached.{Reached}

-- No pair is new but this one, and each one before and this one has a first one still.
pub with_pair : (pairs firsts firsts' : List Reached) (pair : Reached) → AreFirst pairs firsts
    → ((one : Reached) → Contains firsts' one → Contains firsts one ⊎ (one ≡ pair))
    → ((one : Reached) → Contains firsts one → HasFirst firsts' one) → HasFirst firsts' pair → AreFirst (pairs ++ pair ∷ []) firsts'
with_pair pairs firsts firsts' pair are old still has =
    record { among = λ one there. among one (old one there); least = λ one there. least one (Contains-push_cases pairs pair one there) }
  where
    among : (one : Reached) → Contains firsts one ⊎ (one ≡ pair) → Contains (pairs ++ pair ∷ []) one
    among one (inl before) = Contains-append_left pairs (pair ∷ []) one (are.among one before)
    among one (inr same) = subst (Contains (pairs ++ pair ∷ [])) (sym same) (Contains-push pairs pair)

    through : (one : Reached) → HasFirst firsts one → HasFirst firsts' one
    through one (first, there, same, no_later) = next (still first there)
      where
        next : HasFirst firsts' first → HasFirst firsts' one
        next (other, there', same', no_later') = (other, there', same' ∙ same, omega (arith, no_later, no_later'))

    least : (one : Reached) → Contains pairs one ⊎ (pair ≡ one) → HasFirst firsts' one
    least one (inl before) = through one (are.least one before)
    least one (inr same) = subst (HasFirst firsts') same has

-- a pair that stays has a first one still: itself
itself : (firsts' : List Reached) (one : Reached) → Contains firsts' one → HasFirst firsts' one
itself firsts' one there = (one, there, refl, omega arith)

-- at the end
pub with_pushed : (pairs firsts firsts' : List Reached) (pair : Reached) → AreFirst pairs firsts → firsts' ≡ firsts ++ pair ∷ []
    → AreFirst (pairs ++ pair ∷ []) firsts'
with_pushed pairs firsts firsts' pair are is =
    with_pair pairs firsts firsts' pair are old (λ one there. itself firsts' one (stays one there))
    (itself firsts' pair (subst (λ (l : List Reached). Contains l pair) (sym is) (Contains-push firsts pair)))
  where
    stays : (one : Reached) → Contains firsts one → Contains firsts' one
    stays one there = subst (λ (l : List Reached). Contains l one) (sym is) (Contains-append_left firsts (pair ∷ []) one there)

    by : (one : Reached) → Contains firsts one ⊎ (pair ≡ one) → Contains firsts one ⊎ (one ≡ pair)
    by one (inl before) = inl before
    by one (inr same) = inr (sym same)

    old : (one : Reached) → Contains firsts' one → Contains firsts one ⊎ (one ≡ pair)
    old one there = by one (Contains-push_cases firsts pair one (subst (λ (l : List Reached). Contains l one) is there))

-- none is new where one at its offset is no later
pub with_first : (pairs firsts : List Reached) (pair : Reached) → AreFirst pairs firsts → HasFirst firsts pair → AreFirst (pairs ++ pair ∷ []) firsts
with_first pairs firsts pair are has = with_pair pairs firsts firsts pair are (λ one there. inl there) (λ one there. itself firsts one there) has

-- no pair yet
pub none_first : AreFirst [] []
none_first = record { among = λ first there. there; least = λ pair there. absurd (no_pair pair there) }
  where
    no_pair : (pair : Reached) → Contains [] pair → ⊥
    no_pair pair (k, within, there) = absurd (omega (arith, within))
