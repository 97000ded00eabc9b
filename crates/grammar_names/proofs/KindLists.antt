-- Lists of numbers that rise, and what is in them.
use Rattle.std.proofs.Common.{Less, Equal, Greater, ◌≡◌, ℕ, suc, ◌+◌, ◌<◌, ◌≤◌, ◌&&◌, ◌||◌, ◌⊎◌, inl, inr, Bool, true, false, not, cond, List, []}
use Rattle.std.proofs.Common.{◌∷◌, ◌++◌, length, take, Result, Ok, Err, get_or, refl, sym, ap, ◌∙◌, subst, arith, true≢false}
use Rattle.std.specs.Prelude.{filter, is_ok, nat_eq, nat_lt}
use Rattle.std.specs.BTreeMap.{is_at}
use Rattle.std.specs.BTreeSet.{BTreeSet}
use Rattle.std.specs.Cmp.{nat_cmp_total}
use Rattle.std.specs.List.{AllByRecursion, Contains, dedup, list_any}
use Rattle.std.specs.List.Sorted.{IsBinarySearchResult, IsNonDecreasing, IsStrictlyIncreasing, IsStrictlySortedBy}
use Rattle.std.specs.Ordering.{is_eq, nat_cmp}
use Rattle.std.proofs.lemmas.Bool.{cases_lt, eqb-true, eq-eqb, lt-ltb, ltb-true, ne_eqb}
use Rattle.std.proofs.Math.Dec.{eqb}
use Rattle.std.proofs.lemmas.List.{get_or_default}
use Rattle.std.proofs.lemmas.List.Elements.{filter_more}
use Rattle.std.proofs.lemmas.List.Folds.{Any-from_list_any, list_any_at, list_any_none}
use Rattle.std.proofs.lemmas.List.Kept.{Contains-dedup_nat, Contains-from_dedup, IsStrictlyIncreasing-filter}
use Rattle.std.proofs.lemmas.List.Sorted.{searched}
use Rattle.std.proofs.lemmas.Map.Keys.{IsStrictlyIncreasing-from_sorted, non_decreasing_from_sorted, sorted_from_strictly_increasing}
use Rattle.std.proofs.lemmas.Map.Lookups.{btree_set_from_contains, exact_unsigned}
use Rattle.std.proofs.lemmas.Map.Views.{any-filter_same}
use Rattle.grammar_tree.specs.Written.{Source, TokenKind}
use Rattle.grammar_tree.specs.Kinds.{visible_from}
use Rattle.grammar_names.specs.KindLists.{is_in, lacking}

-- What is in a list, part of which a filter keeps.
pub in_filter : (p : ℕ → Bool) (xs : List ℕ) (k : ℕ) → is_in (filter p xs) k ≡ (p k && is_in xs k)
in_filter p xs k = any-filter_same (λ other. nat_eq other k) p (p k) (λ x e. ap p (eqb-true x k e)) xs

-- tests that agree on what is in the list keep the same
filter_first : (p q : ℕ → Bool) (x : ℕ) (xs : List ℕ) → p x ≡ q x → filter p xs ≡ filter q xs → filter p (x ∷ xs) ≡ filter q (x ∷ xs)
filter_first p q x xs e rest = ap (λ b. cond b (x ∷ filter p xs) (filter p xs)) e ∙ ap (λ l. cond (q x) (x ∷ l) l) rest

in_first : (x : ℕ) (xs : List ℕ) → is_in (x ∷ xs) x ≡ true
in_first x xs = ap (λ b. b || is_in xs x) (eq-eqb x x refl)

in_later : (b c : Bool) → c ≡ true → (b || c) ≡ true
in_later true c e = refl
in_later false c e = e

pub filter_agree_on : (p q : ℕ → Bool) (xs : List ℕ) → ((k : ℕ) → is_in xs k ≡ true → p k ≡ q k) → filter p xs ≡ filter q xs
filter_agree_on p q [] same = refl
filter_agree_on p q (x ∷ xs) same =
    filter_first p q x xs (same x (in_first x xs)) (filter_agree_on p q xs (λ k h. same k (in_later (nat_eq x k) (is_in xs k) h)))

-- Two lists that rise and have the same numbers are equal.
by_order : (q x : ℕ) (b : Bool) → nat_lt q x ≡ b → (c : Bool) → nat_eq q x ≡ c → is_eq (cond b Less (cond c Equal Greater)) ≡ nat_eq x q
by_order q x true h c e = sym (ne_eqb x q (λ same. omega (arith, ltb-true q x h, same)))
by_order q x false h true e = sym (eq-eqb x q (sym (eqb-true q x e)))
by_order q x false h false e = sym (ne_eqb x q (λ same. true≢false (sym (eq-eqb q x (sym same)) ∙ e)))

at_is : (q x : ℕ) → is_at (nat_cmp q) x ≡ nat_eq x q
at_is q x = by_order q x (nat_lt q x) refl (nat_eq q x) refl

any_at : (q : ℕ) (xs : List ℕ) → list_any (is_at (nat_cmp q)) xs ≡ is_in xs q
any_at q [] = refl
any_at q (x ∷ xs) = ap (λ b. b || list_any (is_at (nat_cmp q)) xs) (at_is q x) ∙ ap (λ b. nat_eq x q || b) (any_at q xs)

pub same_rising : (xs ys : List ℕ) → IsStrictlyIncreasing xs → IsStrictlyIncreasing ys → ((k : ℕ) → is_in xs k ≡ is_in ys k) → xs ≡ ys
same_rising xs ys up_xs up_ys same =
    let s : BTreeSet ℕ = record { keys = xs } in
    let t : BTreeSet ℕ = record { keys = ys } in
    btree_set_from_contains nat_cmp_total s t (sorted_from_strictly_increasing xs up_xs) (sorted_from_strictly_increasing ys up_ys)
    (λ q. any_at q xs ∙ same q ∙ sym (any_at q ys)) exact_unsigned

and_swap : (a b : Bool) → (a && b) ≡ (b && a)
and_swap true true = refl
and_swap true false = refl
and_swap false true = refl
and_swap false false = refl

-- what two lists that rise have in common, taken from either
pub common_of : (xs ys : List ℕ) → IsStrictlyIncreasing xs → IsStrictlyIncreasing ys → filter (is_in xs) ys ≡ filter (is_in ys) xs
common_of xs ys up_xs up_ys =
    same_rising (filter (is_in xs) ys) (filter (is_in ys) xs) (IsStrictlyIncreasing-filter (is_in xs) ys up_ys)
    (IsStrictlyIncreasing-filter (is_in ys) xs up_xs)
    (λ k. in_filter (is_in xs) ys k ∙ and_swap (is_in xs k) (is_in ys k) ∙ sym (in_filter (is_in ys) xs k))

-- A list that rises doesn't fall.
pub not_falling : (xs : List ℕ) → IsStrictlyIncreasing xs → IsNonDecreasing xs
not_falling xs up = non_decreasing_from_sorted xs (sorted_from_strictly_increasing xs up)

-- a search finds what is in a list that doesn't fall
pub search_finds : (xs : List ℕ) (x : ℕ) (r : Result ℕ ℕ) → IsBinarySearchResult (λ y. nat_cmp y x) xs r → IsNonDecreasing xs → is_ok r ≡ is_in xs x
search_finds xs x (Ok i) found up =
    let at = searched xs x (Ok i) found (λ i j h k. up i j 0 h k) in
    sym (list_any_at (λ other. nat_eq other x) xs i 0 at.0 (eq-eqb (get_or xs i 0) x at.1))
search_finds xs x (Err i) found up =
    let at = searched xs x (Err i) found (λ i j h k. up i j 0 h k) in
    sym (list_any_none (λ other. nat_eq other x) xs
    (λ k d h. ne_eqb (get_or xs k d) x (λ same. apart k d (get_or_default xs k d 0 h) same h at (cases_lt k i))))
  where
    apart : (k d : ℕ) → get_or xs k d ≡ get_or xs k 0 → get_or xs k d ≡ x → k < length xs → (i ≤ length xs) × ((j : ℕ) → j < i → get_or xs j 0 < x)
        × ((j : ℕ) → i ≤ j → j < length xs → x < get_or xs j 0) → (k < i) ⊎ (i ≤ k) → ⊥
    apart k d same e h at (inl before) = omega (arith, same, e, at.1 k before)
    apart k d same e h at (inr after) = omega (arith, same, e, at.2 k after h)

-- what is in a list is one of its elements
pub contains_in : (xs : List ℕ) (k : ℕ) → is_in xs k ≡ true → Contains xs k
contains_in xs k e =
    let at = Any-from_list_any (λ other. nat_eq other k) xs e in
    let same : at.1 ≡ k = eqb-true at.1 k at.4 in
    let P : ℕ → Type 0 = λ x. Contains xs x in
    subst P same (at.0, at.2, at.3)

pub in_contains : (xs : List ℕ) (k : ℕ) → Contains xs k → is_in xs k ≡ true
in_contains xs k c = list_any_at (λ other. nat_eq other k) xs c.0 k c.1 (eq-eqb (get_or xs c.0 k) k c.2)

both_or_none : (a b : Bool) → (a ≡ true → b ≡ true) → (b ≡ true → a ≡ true) → a ≡ b
both_or_none true b f g = sym (f refl)
both_or_none false true f g = g refl
both_or_none false false f g = refl

-- each number once is the same numbers
pub in_dedup : (xs : List ℕ) (k : ℕ) → is_in (dedup eqb xs) k ≡ is_in xs k
in_dedup xs k =
    both_or_none (is_in (dedup eqb xs) k) (is_in xs k) (λ e. in_contains xs k (Contains-from_dedup eqb xs k (contains_in (dedup eqb xs) k e)))
    (λ e. in_contains (dedup eqb xs) k (Contains-dedup_nat xs k (contains_in xs k e)))

-- Kinds are numbered from 0 on, so that those that are no gap kinds rise.
below_all : (n k : ℕ) (kinds : List TokenKind) → n < k → AllByRecursion (λ y. nat_cmp n y ≡ Less) (visible_from k kinds)
below_all n k [] h = tt
below_all n k (kind ∷ kinds) h = by_gap kind.name kind.gap kind.source (below_all n (suc k) kinds (omega (arith, h)))
  where
    by_gap : (name : List ℕ) (gap : Bool) (source : Source) → AllByRecursion (λ y. nat_cmp n y ≡ Less) (visible_from (suc k) kinds)
        → AllByRecursion (λ y. nat_cmp n y ≡ Less) (visible_from k (record { name = name; gap = gap; source = source } ∷ kinds))
    by_gap name true source rest = rest
    by_gap name false source rest = (ap (λ b. cond b Less (cond (nat_eq n k) Equal Greater)) (lt-ltb n k h), rest)

visible_sorted : (k : ℕ) (kinds : List TokenKind) → IsStrictlySortedBy nat_cmp (visible_from k kinds)
unfolding IsStrictlySortedBy
visible_sorted k [] = tt
visible_sorted k (kind ∷ kinds) = by_gap kind.name kind.gap kind.source (visible_sorted (suc k) kinds)
  where
    by_gap : (name : List ℕ) (gap : Bool) (source : Source) → IsStrictlySortedBy nat_cmp (visible_from (suc k) kinds)
        → IsStrictlySortedBy nat_cmp (visible_from k (record { name = name; gap = gap; source = source } ∷ kinds))
    by_gap name true source rest = rest
    by_gap name false source rest = (below_all k (suc k) kinds (omega arith), rest)

pub visible_rise : (kinds : List TokenKind) → IsStrictlyIncreasing (visible_from 0 kinds)
visible_rise kinds = IsStrictlyIncreasing-from_sorted (visible_from 0 kinds) (visible_sorted 0 kinds)

-- a number that a filter by what is not in the list keeps, or leaves out
pub lacking_more : (left_out xs : List ℕ) (i x : ℕ) → i < length xs → x ≡ get_or xs i x
    → lacking (take (i + 1) xs) left_out ≡ lacking (take i xs) left_out ++ cond (not (is_in left_out x)) (x ∷ []) []
lacking_more left_out xs i x h is =
    filter_more (λ k. not (is_in left_out k)) xs i x h ∙ ap (λ y. lacking (take i xs) left_out ++ cond (not (is_in left_out y)) (y ∷ []) []) (sym is)
