-- Sets that are added one after another.
use Rattle.std.proofs.Common.{◌≡◌, ℕ, suc, ◌+◌, ◌<◌, ◌≤◌, ◌||◌, ◌&&◌, Bool, true, false, not, cond, List, [], ◌∷◌, ◌++◌}
use Rattle.std.proofs.Common.{length, drop, get_or, refl, sym, ap, ◌∙◌, append_assoc, add-one, drop-cons}
use Rattle.std.specs.Prelude.{filter}
use Rattle.std.specs.List.{list_any}
use Rattle.std.proofs.lemmas.List.{append-nil}
use Rattle.std.proofs.lemmas.List.{drop_all}
use Rattle.std.proofs.lemmas.List.Folds.{list_any-append}
use Rattle.std.proofs.lemmas.Slice.Eq.{bytes_eq-Decides}
use Rattle.grammar_tree.specs.Kinds.{distinct, same_text}
use Rattle.normal_form_sets.specs.Sets.{SetsOfKinds, no_sets, with_each, with_set, with_sets}

pub with_sets-append : (sets xs ys : List (List ℕ)) → with_sets sets (xs ++ ys) ≡ with_sets (with_sets sets xs) ys
with_sets-append sets [] ys = refl
with_sets-append sets (x ∷ xs) ys = with_sets-append (with_set sets x) xs ys

module _ {X : Type 0} (k : X → List (List ℕ)) (h : List X → List (List ℕ)) where
  -- the sets of one more element are added
  pub sets_step : ((x : X) (xs : List X) → h (x ∷ xs) ≡ k x ++ h xs) → (s new : SetsOfKinds) (items : List X) (i : ℕ) (x : X) → i < length items
      → x ≡ get_or items i x → new ≡ with_each s (k x) → with_each new (h (drop (i + 1) items)) ≡ with_each s (h (drop i items))
  sets_step cons s new items i x within is e =
      ap (λ (u : SetsOfKinds). with_each u (h (drop (i + 1) items))) e
      ∙ ap (grown s)
      (sym (with_sets-append s.sets (k x) (h (drop (i + 1) items)))
      ∙ sym
      (ap (with_sets s.sets) (ap h (drop-cons items i x within ∙ ap (λ y. y ∷ drop (suc i) items) (sym is)) ∙ cons x (drop (suc i) items)
      ∙ ap (λ j. k x ++ h (drop j items)) (sym (add-one i)))))
    where
      grown : SetsOfKinds → List (List ℕ) → SetsOfKinds
      grown s sets = record { all = s.all; sets = sets }

  -- all are added
  pub sets_end : h [] ≡ [] → (s : SetsOfKinds) (items : List X) (i : ℕ) → length items ≤ i → with_each s (h (drop i items)) ≡ s
  sets_end nil s items i past = ap (λ l. with_each s (h l)) (drop_all i items past) ∙ ap (with_each s) nil

-- the set isn't among the sets
abbrev is_new : List (List ℕ) → List ℕ → Bool
is_new sets ks = not (list_any (λ other. same_text other ks) sets)

filter_first : (p q r : List ℕ → Bool) (x : List ℕ) (xs : List (List ℕ)) → filter p (filter q xs) ≡ filter r xs → (b c : Bool) → q x ≡ b → p x ≡ c
    → r x ≡ (b && c) → filter p (cond b (x ∷ filter q xs) (filter q xs)) ≡ cond (r x) (x ∷ filter r xs) (filter r xs)
filter_first p q r x xs e true true qx px rx =
    ap (λ z. cond z (x ∷ filter p (filter q xs)) (filter p (filter q xs))) px ∙ ap (λ l. x ∷ l) e ∙ sym (ap (λ z. cond z (x ∷ filter r xs) (filter r xs)) rx)
filter_first p q r x xs e true false qx px rx =
    ap (λ z. cond z (x ∷ filter p (filter q xs)) (filter p (filter q xs))) px ∙ e ∙ sym (ap (λ z. cond z (x ∷ filter r xs) (filter r xs)) rx)
filter_first p q r x xs e false true qx px rx = e ∙ sym (ap (λ z. cond z (x ∷ filter r xs) (filter r xs)) rx)
filter_first p q r x xs e false false qx px rx = e ∙ sym (ap (λ z. cond z (x ∷ filter r xs) (filter r xs)) rx)

-- a filter of a filter
filter_twice : (p q r : List ℕ → Bool) → ((x : List ℕ) → r x ≡ (q x && p x)) → (xs : List (List ℕ)) → filter p (filter q xs) ≡ filter r xs
filter_twice p q r e [] = refl
filter_twice p q r e (x ∷ xs) =
    ap (λ b. filter p (cond b (x ∷ filter q xs) (filter q xs))) refl
    ∙ filter_first p q r x xs (filter_twice p q r e xs) (q x) (p x) refl refl (e x)

-- a set that is among them is no other's
known_stays : (sets : List (List ℕ)) (k u : List ℕ) → is_new sets k ≡ false → (b : Bool) → same_text k u ≡ b → is_new sets u ≡ (not b && is_new sets u)
known_stays sets k u known true e =
    let same : k ≡ u = (bytes_eq-Decides k u).0 e in ap (is_new sets) (sym same) ∙ known
known_stays sets k u known false e = refl

one_more : (b c : Bool) → not (b || (c || false)) ≡ (not c && not b)
one_more true true = refl
one_more true false = refl
one_more false true = refl
one_more false false = refl

more_known : (sets : List (List ℕ)) (k u : List ℕ) → is_new (sets ++ k ∷ []) u ≡ (not (same_text k u) && is_new sets u)
more_known sets k u =
    ap not (list_any-append (λ other. same_text other u) sets (k ∷ [])) ∙ one_more (list_any (λ other. same_text other u) sets) (same_text k u)

pub with_sets_are : (kss sets : List (List ℕ)) → with_sets sets kss ≡ sets ++ filter (is_new sets) (distinct kss)
with_sets_are [] sets = sym (append-nil sets)
with_sets_are (k ∷ ks) sets = go (list_any (λ other. same_text other k) sets) refl (λ s. with_sets_are ks s)
  where
    rest : List (List ℕ)
    rest = filter (λ u. not (same_text k u)) (distinct ks)

    go : (b : Bool) → list_any (λ other. same_text other k) sets ≡ b → ((s : List (List ℕ)) → with_sets s ks ≡ s ++ filter (is_new s) (distinct ks))
        → with_sets (cond b sets (sets ++ k ∷ [])) ks ≡ sets ++ cond (is_new sets k) (k ∷ filter (is_new sets) rest) (filter (is_new sets) rest)
    go true h later =
        let known : is_new sets k ≡ false = ap not h in
        later sets
        ∙ ap (λ l. sets ++ l)
        (sym (filter_twice (is_new sets) (λ u. not (same_text k u)) (is_new sets) (λ u. known_stays sets k u known (same_text k u) refl) (distinct ks))
        ∙ sym (ap (λ b. cond b (k ∷ filter (is_new sets) rest) (filter (is_new sets) rest)) known))
    go false h later =
        let new : is_new sets k ≡ true = ap not h in
        later (sets ++ k ∷ [])
        ∙ append_assoc sets (k ∷ []) (filter (is_new (sets ++ k ∷ [])) (distinct ks))
        ∙ ap (λ l. sets ++ l)
        (ap (λ l. k ∷ l) (sym (filter_twice (is_new sets) (λ u. not (same_text k u)) (is_new (sets ++ k ∷ [])) (more_known sets k) (distinct ks)))
        ∙ sym (ap (λ b. cond b (k ∷ filter (is_new sets) rest) (filter (is_new sets) rest)) new))

filter_all : (xs : List (List ℕ)) → filter (is_new []) xs ≡ xs
filter_all [] = refl
filter_all (x ∷ xs) = ap (λ l. x ∷ l) (filter_all xs)

-- the sets, each once
pub with_all : (all : List ℕ) (kss : List (List ℕ)) → with_each (no_sets all) kss ≡ record { all = all; sets = distinct kss }
with_all all kss = ap (of_kinds all) (with_sets_are kss [] ∙ filter_all (distinct kss))
  where
    of_kinds : List ℕ → List (List ℕ) → SetsOfKinds
    of_kinds all sets = record { all = all; sets = sets }
