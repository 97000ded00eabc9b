-- Which pairs are in lists that grow in loops.
use Rattle.std.proofs.Common.{◌≡◌, ◌⊎◌, inl, inr, ◌+◌, ◌<◌, ◌≤◌, ◌++◌, ℕ, List, [], ◌∷◌, drop, get_or, take, length, arith, sym, subst}
use Rattle.std.specs.Prelude.{◌↔◌}
use Rattle.std.specs.List.{Contains}
use Rattle.std.proofs.lemmas.List.{take-append-drop, take_all, take_more}
use Rattle.std.proofs.lemmas.List.Elements.{Contains-append_cases, Contains-append_left, Contains-append_right, Contains-push, Contains-push_cases}
use Rattle.cert_check_texts.specs.inner.Reached.{AreAmong, AreOfBoth, AreWith, SomeOf}
use Rattle.cert_check_texts.specs.declared.reached.Reached.{Reached}

-- an empty list has none
pub none_in : {A : Type 0} (one : A) → Contains [] one → ⊥
none_in one (k, within, at) = absurd (omega (arith, within))

-- one that is added to a list
pub with_one : (pairs : List Reached) (pair : Reached) (IsNew : Reached → Type 0) → IsNew pair → ((other : Reached) → IsNew other → other ≡ pair)
    → AreWith pairs IsNew (pairs ++ pair ∷ [])
with_one pairs pair IsNew new only other = (λ at. forward (Contains-push_cases pairs pair other at), back)
  where
    forward : Contains pairs other ⊎ (pair ≡ other) → Contains pairs other ⊎ IsNew other
    forward (inl before) = inl before
    forward (inr same) = inr (subst IsNew same new)

    back : Contains pairs other ⊎ IsNew other → Contains (pairs ++ pair ∷ []) other
    back (inl before) = Contains-append_left pairs (pair ∷ []) other before
    back (inr is) = subst (Contains (pairs ++ pair ∷ [])) (sym (only other is)) (Contains-push pairs pair)

-- none that is added
pub with_none : (pairs : List Reached) (IsNew : Reached → Type 0) → ((other : Reached) → IsNew other → ⊥) → AreWith pairs IsNew pairs
with_none pairs IsNew none other = (λ at. inl at, back)
  where
    back : Contains pairs other ⊎ IsNew other → Contains pairs other
    back (inl before) = before
    back (inr is) = absurd (none other is)

module _ {A : Type 0} (Leads : A → Reached → Type 0) where
  -- the pairs that some of these lead to
  abbrev From : List A → Reached → Type 0
  From some pair = SomeOf some (λ (one : A). Leads one pair)

  pub from_none : (pairs all : List Reached) → all ≡ pairs → AreWith pairs (From []) all
  from_none pairs all same =
      subst (AreWith pairs (From [])) (sym same) (with_none pairs (From []) (λ other some. none_in some.0 some.1))

  from_one : (base all all' : List Reached) (some : List A) (one : A) → AreWith base (From some) all → AreWith all (Leads one) all'
      → AreWith base (From (some ++ one ∷ [])) all'
  from_one base all all' some one before more pair = (λ at. forward ((more pair).0 at), back)
    where
      widen : From some pair → From (some ++ one ∷ []) pair
      widen (other, among, leads) = (other, Contains-append_left some (one ∷ []) other among, leads)

      earlier : Contains base pair ⊎ From some pair → Contains base pair ⊎ From (some ++ one ∷ []) pair
      earlier (inl at) = inl at
      earlier (inr from) = inr (widen from)

      forward : Contains all pair ⊎ Leads one pair → Contains base pair ⊎ From (some ++ one ∷ []) pair
      forward (inl at) = earlier ((before pair).0 at)
      forward (inr leads) = inr (one, Contains-push some one, leads)

      by : (other : A) → Leads other pair → Contains some other ⊎ (one ≡ other) → Contains all' pair
      by other leads (inl among) = (more pair).1 (inl ((before pair).1 (inr (other, among, leads))))
      by other leads (inr same) = (more pair).1 (inr (subst (λ (x : A). Leads x pair) (sym same) leads))

      back : Contains base pair ⊎ From (some ++ one ∷ []) pair → Contains all' pair
      back (inl at) = (more pair).1 (inl ((before pair).1 (inl at)))
      back (inr (other, among, leads)) = by other leads (Contains-push_cases some one other among)

  -- one more turn of a loop
  pub from_more : (base all all' : List Reached) (list : List A) (i : ℕ) (d : A) → i < length list → AreWith base (From (take i list)) all
      → AreWith all (Leads (get_or list i d)) all' → AreWith base (From (take (i + 1) list)) all'
  from_more base all all' list i d within before more =
      subst (λ (some : List A). AreWith base (From some) all') (sym (take_more list i d within))
      (from_one base all all' (take i list) (get_or list i d) before more)

  -- and its end
  pub from_all : (base all : List Reached) (list : List A) (i : ℕ) → length list ≤ i → AreWith base (From (take i list)) all → AreWith base (From list) all
  from_all base all list i past are = subst (λ (some : List A). AreWith base (From some) all) (take_all i list past) are

-- the pairs of two lists, one after another, in any order
pub both_lists : (pairs others joined all : List Reached) → joined ≡ pairs ++ others → ((pair : Reached) → Contains all pair ↔ Contains joined pair)
    → AreOfBoth pairs others all
both_lists pairs others joined all is same pair = (
  λ at. Contains-append_cases pairs others pair (subst (λ (l : List Reached). Contains l pair) is ((same pair).0 at)),
  λ at. (same pair).1 (subst (λ (l : List Reached). Contains l pair) (sym is) (back at)),
)
  where
    back : Contains pairs pair ⊎ Contains others pair → Contains (pairs ++ others) pair
    back (inl at) = Contains-append_left pairs others pair at
    back (inr at) = Contains-append_right pairs others pair at

-- the first of the same pairs are among them
pub first_among : (count : ℕ) (pairs all few : List Reached) → few ≡ take count all → ((pair : Reached) → Contains all pair ↔ Contains pairs pair)
    → AreAmong few pairs
first_among count pairs all few is same pair at =
    let front : Contains (take count all) pair = subst (λ (l : List Reached). Contains l pair) is at in
    (same pair).0 (subst (λ (l : List Reached). Contains l pair) (take-append-drop count all)
    (Contains-append_left (take count all) (drop count all) pair front))
