-- The kinds that tokens stand for.
use Rattle.std.proofs.Common.{◌≡◌, ℕ, ◌||◌, Bool, true, false, not, cond, List, [], ◌∷◌, ◌++◌, Option, Some, None, is_none, refl, sym, ap, ◌∙◌, subst}
use Rattle.std.specs.Prelude.{nat_eq, filter, find}
use Rattle.std.specs.List.{cons_option, filter_map, list_any}
use Rattle.std.proofs.lemmas.List.Elements.{filter_map-append}
use Rattle.grammar_tree.specs.Written.{Reference, WrittenGrammar}
use Rattle.grammar_tree.specs.Kinds.{any_kinds, other_kinds, reference_kind}

-- whether it is this kind, as the grammar's definition has it
abbrev is_kind : ℕ → Option ℕ → Bool
is_kind k None = false
is_kind k (Some other) = nat_eq other k

-- one more token, which stands for a kind or for none
pub one_more : (h : Reference → Option ℕ) (xs : List Reference) (y : Reference) (k : ℕ) → h y ≡ Some k → filter_map h (xs ++ y ∷ []) ≡ filter_map h xs ++ k ∷ []
one_more h xs y k e =
    filter_map-append h xs (y ∷ []) ∙ ap (λ l. filter_map h xs ++ l)
    (let P : Option ℕ → Type 0 = λ o. filter_map (λ (_ : Reference). o) (y ∷ []) ≡ k ∷ [] in subst P (sym e) refl)

pub none_more : (h : Reference → Option ℕ) (xs : List Reference) (y : Reference) → h y ≡ None → filter_map h (xs ++ y ∷ []) ≡ filter_map h xs ++ []
none_more h xs y e =
    filter_map-append h xs (y ∷ []) ∙ ap (λ l. filter_map h xs ++ l)
    (let P : Option ℕ → Type 0 = λ o. filter_map (λ (_ : Reference). o) (y ∷ []) ≡ [] in subst P (sym e) refl)

-- a kind that is found among what the tokens stand for
found_as : (h : Reference → Option ℕ) (k : ℕ) (r : Reference) (rs : List Reference)
    → is_none (find (λ x. is_kind k (h x)) rs) ≡ not (list_any (λ other. nat_eq other k) (filter_map h rs)) → (o : Option ℕ)
    → is_none (cond (is_kind k o) (Some r) (find (λ x. is_kind k (h x)) rs)) ≡ not (list_any (λ other. nat_eq other k) (cons_option o (filter_map h rs)))
found_as h k r rs later None = later
found_as h k r rs later (Some other) = by_test (nat_eq other k)
  where
    by_test : (b : Bool) → is_none (cond b (Some r) (find (λ x. is_kind k (h x)) rs)) ≡ not (b || list_any (λ x. nat_eq x k) (filter_map h rs))
    by_test true = refl
    by_test false = later

found : (h : Reference → Option ℕ) (k : ℕ) (rs : List Reference)
    → is_none (find (λ x. is_kind k (h x)) rs) ≡ not (list_any (λ other. nat_eq other k) (filter_map h rs))
found h k [] = refl
found h k (r ∷ rs) = found_as h k r rs (found h k rs) (h r)

filter_same : (p q : ℕ → Bool) (xs : List ℕ) → ((k : ℕ) → p k ≡ q k) → filter p xs ≡ filter q xs
filter_same p q [] e = refl
filter_same p q (x ∷ xs) e = ap (λ b. cond b (x ∷ filter p xs) (filter p xs)) (e x) ∙ ap (λ l. cond (q x) (x ∷ l) l) (filter_same p q xs e)

-- the kinds that aren't left out are those that no token stands for
pub others_are : (G : WrittenGrammar) (refs : List Reference)
    → filter (λ k. not (list_any (λ other. nat_eq other k) (filter_map (reference_kind G) refs))) (any_kinds G) ≡ other_kinds G refs
others_are G refs =
    sym (filter_same (λ k. is_none (find (λ r. is_kind k (reference_kind G r)) refs))
    (λ k. not (list_any (λ other. nat_eq other k) (filter_map (reference_kind G) refs))) (any_kinds G) (λ k. found (reference_kind G) k refs))
