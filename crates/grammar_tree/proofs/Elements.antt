-- Elements of lists that are mapped, filtered and joined.
use Rattle.std.proofs.Common.{◌≡◌, ◌⊎◌, inl, inr, ℕ, zero, suc, Bool, true, false, not, cond, List, [], ◌∷◌}
use Rattle.std.proofs.Common.{Option, Some, None, map, refl, sym, ap, ◌∙◌, arith, true≢false}
use Rattle.std.specs.Prelude.{filter, find, is_none}
use Rattle.std.specs.List.{Contains, cons_option, filter_map, flat_map, position}
use Rattle.std.proofs.lemmas.Bool.{cases_Bool}
use Rattle.std.proofs.lemmas.List.Elements.{Contains-append_cases}
use Rattle.std.proofs.lemmas.Option.{none-some, same_Some}
use Rattle.std.proofs.lemmas.Slice.Eq.{bytes_eq-Decides}
use Rattle.grammar_tree.specs.Kinds.{distinct, same_text}
use Rattle.grammar_tree.proofs.Names.{some_position}

module _ {X : Type 0} where
  pub contains_none : (x : X) → Contains [] x → ⊥
  contains_none x (k, lt, e) = omega (arith, lt)

  pub contains_first : (y : X) (xs : List X) (x : X) → y ≡ x → Contains (y ∷ xs) x
  contains_first y xs x e = (0, omega arith, e)

  pub contains_later : (y : X) (xs : List X) (x : X) → Contains xs x → Contains (y ∷ xs) x
  contains_later y xs x (k, lt, e) = (suc k, omega arith, e)

  pub contains_cases : (y : X) (xs : List X) (x : X) → Contains (y ∷ xs) x → (y ≡ x) ⊎ Contains xs x
  contains_cases y xs x (zero, lt, e) = inl e
  contains_cases y xs x (suc k, lt, e) = inr (k, omega (arith, lt), e)

  pub contains_filter : (p : X → Bool) (xs : List X) (x : X) → p x ≡ true → Contains xs x → Contains (filter p xs) x
  contains_filter p [] x h c = c
  contains_filter p (y ∷ xs) x h c = step (p y) refl (contains_filter p xs x h) (contains_cases y xs x c)
    where
      step : (b : Bool) → p y ≡ b → (Contains xs x → Contains (filter p xs) x) → (y ≡ x) ⊎ Contains xs x → Contains (cond b (y ∷ filter p xs) (filter p xs)) x
      step true e more (inl same) = contains_first y (filter p xs) x same
      step true e more (inr later) = contains_later y (filter p xs) x (more later)
      step false e more (inl same) = absurd (true≢false (sym h ∙ ap p (sym same) ∙ e))
      step false e more (inr later) = more later

  pub filtered : (p : X → Bool) (xs : List X) (x : X) → Contains (filter p xs) x → Contains xs x × (p x ≡ true)
  filtered p [] x c = absurd (contains_none x c)
  filtered p (y ∷ xs) x c = step (p y) refl (filtered p xs x) c
    where
      and_later : Contains xs x × (p x ≡ true) → Contains (y ∷ xs) x × (p x ≡ true)
      and_later (later, e) = (contains_later y xs x later, e)

      first_or : p y ≡ true → (Contains (filter p xs) x → Contains xs x × (p x ≡ true)) → (y ≡ x) ⊎ Contains (filter p xs) x → Contains (y ∷ xs) x
          × (p x ≡ true)
      first_or e more (inl same) = (contains_first y xs x same, ap p (sym same) ∙ e)
      first_or e more (inr later) = and_later (more later)

      step : (b : Bool) → p y ≡ b → (Contains (filter p xs) x → Contains xs x × (p x ≡ true)) → Contains (cond b (y ∷ filter p xs) (filter p xs)) x
          → Contains (y ∷ xs) x × (p x ≡ true)
      step true e more d = first_or e more (contains_cases y (filter p xs) x d)
      step false e more d = and_later (more d)

  pub found : (p : X → Bool) (xs : List X) (x : X) → find p xs ≡ Some x → Contains xs x × (p x ≡ true)
  found p [] x e = absurd (none-some x e)
  found p (y ∷ xs) x e = step (p y) refl (found p xs x) e
    where
      and_later : Contains xs x × (p x ≡ true) → Contains (y ∷ xs) x × (p x ≡ true)
      and_later (later, h) = (contains_later y xs x later, h)

      step : (b : Bool) → p y ≡ b → (find p xs ≡ Some x → Contains xs x × (p x ≡ true)) → cond b (Some y) (find p xs) ≡ Some x → Contains (y ∷ xs) x
          × (p x ≡ true)
      step true h more d = let same : y ≡ x = same_Some y x d in (contains_first y xs x same, ap p (sym same) ∙ h)
      step false h more d = and_later (more d)

  -- where no first place passes, nothing is found
  pub found_none : (p : X → Bool) (xs : List X) → position p xs ≡ None → is_none (find p xs) ≡ true
  found_none p xs e = step (find p xs) refl
    where
      step : (o : Option X) → find p xs ≡ o → is_none o ≡ true
      step None h = refl
      step (Some x) h = let it = found p xs x h in let at = some_position p xs x it.0 it.1 in absurd (none-some at.0 (sym e ∙ at.1))

module _ {X Y : Type 0} where
  pub contains_map : (f : X → Y) (xs : List X) (x : X) → Contains xs x → Contains (map f xs) (f x)
  contains_map f [] x c = absurd (contains_none x c)
  contains_map f (y ∷ xs) x c = step (contains_map f xs x) (contains_cases y xs x c)
    where
      step : (Contains xs x → Contains (map f xs) (f x)) → (y ≡ x) ⊎ Contains xs x → Contains (f y ∷ map f xs) (f x)
      step more (inl same) = contains_first (f y) (map f xs) (f x) (ap f same)
      step more (inr later) = contains_later (f y) (map f xs) (f x) (more later)

  pub mapped : (f : X → Y) (xs : List X) (y : Y) → Contains (map f xs) y → (x : X) × Contains xs x × (f x ≡ y)
  mapped f [] y c = absurd (contains_none y c)
  mapped f (x ∷ xs) y c = step (mapped f xs y) (contains_cases (f x) (map f xs) y c)
    where
      step : (Contains (map f xs) y → (z : X) × Contains xs z × (f z ≡ y)) → (f x ≡ y) ⊎ Contains (map f xs) y → (z : X) × Contains (x ∷ xs) z × (f z ≡ y)
      step more (inl same) = (x, contains_first x xs x refl, same)
      step more (inr later) = let it = more later in (it.0, contains_later x xs it.0 it.1, it.2)

  pub contains_filter_map : (h : X → Option Y) (xs : List X) (x : X) (y : Y) → h x ≡ Some y → Contains xs x → Contains (filter_map h xs) y
  contains_filter_map h [] x y e c = absurd (contains_none x c)
  contains_filter_map h (z ∷ xs) x y e c = step (h z) refl (contains_filter_map h xs x y e) (contains_cases z xs x c)
    where
      step : (o : Option Y) → h z ≡ o → (Contains xs x → Contains (filter_map h xs) y) → (z ≡ x) ⊎ Contains xs x → Contains (cons_option o (filter_map h xs)) y
      step None g more (inl same) = absurd (none-some y (sym g ∙ ap h same ∙ e))
      step None g more (inr later) = more later
      step (Some w) g more (inl same) = contains_first w (filter_map h xs) y (same_Some w y (sym g ∙ ap h same ∙ e))
      step (Some w) g more (inr later) = contains_later w (filter_map h xs) y (more later)

  pub flat_mapped : (f : X → List Y) (xs : List X) (y : Y) → Contains (flat_map f xs) y → (x : X) × Contains xs x × Contains (f x) y
  flat_mapped f [] y c = absurd (contains_none y c)
  flat_mapped f (z ∷ xs) y c = step (flat_mapped f xs y) (Contains-append_cases (f z) (flat_map f xs) y c)
    where
      step : (Contains (flat_map f xs) y → (x : X) × Contains xs x × Contains (f x) y) → Contains (f z) y ⊎ Contains (flat_map f xs) y → (x : X)
          × Contains (z ∷ xs) x × Contains (f x) y
      step more (inl here) = (z, contains_first z xs z refl, here)
      step more (inr later) = let it = more later in (it.0, contains_later z xs it.0 it.1, it.2)

-- each text of a list is among its distinct ones
pub contains_distinct : (ts : List (List ℕ)) (t : List ℕ) → Contains ts t → Contains (distinct ts) t
contains_distinct [] t c = absurd (contains_none t c)
contains_distinct (u ∷ ts) t c = step (contains_distinct ts t) (contains_cases u ts t c) (cases_Bool (same_text u t))
  where
    step : (Contains ts t → Contains (distinct ts) t) → (u ≡ t) ⊎ Contains ts t → (same_text u t ≡ true) ⊎ (same_text u t ≡ false)
        → Contains (distinct (u ∷ ts)) t
    step more (inl same) b = contains_first u (filter (λ v. not (same_text u v)) (distinct ts)) t same
    step more (inr later) (inl same) = contains_first u (filter (λ v. not (same_text u v)) (distinct ts)) t ((bytes_eq-Decides u t).0 same)
    step more (inr later) (inr differ) =
        contains_later u (filter (λ v. not (same_text u v)) (distinct ts)) t
        (contains_filter (λ v. not (same_text u v)) (distinct ts) t (ap not differ) (more later))
