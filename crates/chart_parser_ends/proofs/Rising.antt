-- Rising lists of positions.
use Rattle.std.proofs.Common.{◌≡◌, ℕ, zero, suc, ◌+◌, ◌-◌, ◌<◌, ◌≤◌, ◌⊎◌, inl, inr, List, [], ◌∷◌, ◌++◌, length, get_or, take}
use Rattle.std.proofs.Common.{drop, length-append, nat_cmp, refl, sym, ap, ◌∙◌, subst, arith}
use Rattle.std.proofs.lemmas.List.{take-append-drop, take_more}
use Rattle.std.proofs.lemmas.List.Elements.{Contains-append_left, Contains-append_right, Contains-append_cases, Contains-push_cases, Contains-get_or}
use Rattle.std.proofs.lemmas.Grind.{get_or_default_zero}
use Rattle.std.specs.List.{Contains, insert}
use Rattle.std.specs.Prelude.{Result, Ok, Err, is_ok, IsTrue, MatchResult, slice_index_or}
use Rattle.std.proofs.lemmas.List.Edits.{get_or-insert_at, get_or-insert_below, get_or-insert_above}
use Rattle.std.proofs.lemmas.List.Kept.{AllPairs-from_increasing}
use Rattle.std.proofs.lemmas.List.Sorted.{searched}
use Rattle.std.specs.List.Sorted.{IsStrictlyIncreasing, IsBinarySearchResult}
use Rattle.chart_parser_ends.specs.Positions.{IsGrown, HasAll}
use Rattle.chart_parser_ends.specs.inner.Positions.{IsWith}
use Rattle.chart_parser_ends.specs.inner.Working.{IsNext}

contains_head : (x : ℕ) (xs : List ℕ) → Contains (x ∷ xs) x
contains_head x xs = (0, omega arith, refl)

head_cases : (y : ℕ) (xs : List ℕ) (x : ℕ) → Contains (y ∷ xs) x → Contains xs x ⊎ (x ≡ y)
head_cases y xs x (zero, l, e) = inr (sym e)
head_cases y xs x (suc k, l, e) = inl (k, omega (arith, l), e)

later : (y : ℕ) (xs : List ℕ) (x : ℕ) → Contains xs x → Contains (y ∷ xs) x
later y xs x (k, l, e) = (suc k, omega (arith, l), e)

pub inserted : (xs : List ℕ) (i y : ℕ) → IsWith xs y (insert xs i y)
inserted xs i y =
    record {
      only = λ x h. only x (Contains-append_cases (take i xs) (y ∷ drop i xs) x h);
      kept = λ x h. kept x (Contains-append_cases (take i xs) (drop i xs) x (subst (λ l. Contains l x) (sym (take-append-drop i xs)) h));
      has = Contains-append_right (take i xs) (y ∷ drop i xs) y (contains_head y (drop i xs));
    }
  where
    whole : (x : ℕ) → Contains (take i xs ++ drop i xs) x → Contains xs x
    whole x h = subst (λ l. Contains l x) (take-append-drop i xs) h

    only_after : (x : ℕ) → Contains (drop i xs) x ⊎ (x ≡ y) → Contains xs x ⊎ (x ≡ y)
    only_after x (inl h) = inl (whole x (Contains-append_right (take i xs) (drop i xs) x h))
    only_after x (inr e) = inr e

    only : (x : ℕ) → Contains (take i xs) x ⊎ Contains (y ∷ drop i xs) x → Contains xs x ⊎ (x ≡ y)
    only x (inl h) = inl (whole x (Contains-append_left (take i xs) (drop i xs) x h))
    only x (inr h) = only_after x (head_cases y (drop i xs) x h)

    kept : (x : ℕ) → Contains (take i xs) x ⊎ Contains (drop i xs) x → Contains (take i xs ++ y ∷ drop i xs) x
    kept x (inl h) = Contains-append_left (take i xs) (y ∷ drop i xs) x h
    kept x (inr h) = Contains-append_right (take i xs) (y ∷ drop i xs) x (later y (drop i xs) x h)

pub grown_one : (P : ℕ → Type 0) (a b c : List ℕ) (y : ℕ) → P y → IsGrown P a b → IsWith b y c → IsGrown P a c
grown_one P a b c y p g w = record { only = λ x h. only x (w.only x h); kept = λ x h. w.kept x (g.kept x h) }
  where
    only : (x : ℕ) → Contains b x ⊎ (x ≡ y) → Contains a x ⊎ P x
    only x (inl h) = g.only x h
    only x (inr e) = inr (subst P (sym e) p)

pub order : (m n : ℕ) → (m < n) ⊎ (n ≤ m)
order zero zero = inr (omega arith)
order zero (suc n) = inl (omega arith)
order (suc m) zero = inr (omega arith)
order (suc m) (suc n) = more (order m n)
  where
    more : (m < n) ⊎ (n ≤ m) → (suc m < suc n) ⊎ (suc n ≤ suc m)
    more (inl l) = inl (omega (arith, l))
    more (inr l) = inr (omega (arith, l))

pub not_falling : (xs : List ℕ) → IsStrictlyIncreasing xs → (i j : ℕ) → i ≤ j → j < length xs → get_or xs i 0 ≤ get_or xs j 0
not_falling xs r i j l m = by (order i j)
  where
    by : (i < j) ⊎ (j ≤ i) → get_or xs i 0 ≤ get_or xs j 0
    by (inl k) = omega (arith, AllPairs-from_increasing xs r i j 0 k m)
    by (inr k) = let e : i ≡ j = omega (arith, l, k) in subst (λ n. get_or xs i 0 ≤ get_or xs n 0) e (omega arith)

pub insert_rises : (xs : List ℕ) (i y : ℕ) → IsStrictlyIncreasing xs → i ≤ length xs → ((k : ℕ) → k < i → get_or xs k 0 < y)
    → ((k : ℕ) → i ≤ k → k < length xs → y < get_or xs k 0) → (n : ℕ) → n ≡ length xs + 1 → (k : ℕ) → k + 1 < n
    → get_or (insert xs i y) k 0 < get_or (insert xs i y) (k + 1) 0
insert_rises xs i y r l low high n e k h = by (order (k + 1) i) (order k i)
  where
    by : (k + 1 < i) ⊎ (i ≤ k + 1) → (k < i) ⊎ (i ≤ k) → get_or (insert xs i y) k 0 < get_or (insert xs i y) (k + 1) 0
    by (inl a) b = omega (arith, get_or-insert_below xs i y 0 k (omega (arith, a)) l, get_or-insert_below xs i y 0 (k + 1) a l, r k (omega (arith, h, e, a, l)))
    by (inr a) (inl b) = let same : k + 1 ≡ i =
        omega (arith, a, b) in
        omega (arith, get_or-insert_below xs i y 0 k b l, subst (λ j. get_or (insert xs i y) j 0 ≡ y) (sym same) (get_or-insert_at xs i y 0 l), low k b)
    by (inr a) (inr b) = above (order i k)
      where
        above : (i < k) ⊎ (k ≤ i) → get_or (insert xs i y) k 0 < get_or (insert xs i y) (k + 1) 0
        above (inr c) = let same : i ≡ k =
            omega (arith, b, c) in
            omega (
              arith,
              subst (λ j. get_or (insert xs i y) j 0 ≡ y) same (get_or-insert_at xs i y 0 l),
              get_or-insert_above xs i y 0 k b l,
              high k b (omega (arith, h, e)),
            )
        above (inl c) = earlier k c (omega (arith, h, e))
          where
            earlier : (k : ℕ) → i < k → k < length xs → get_or (insert xs i y) k 0 < get_or (insert xs i y) (k + 1) 0
            earlier zero c d = absurd (omega (arith, c))
            earlier (suc m) c d =
                let e : m + 1 ≡ suc m = omega arith in
                let up : get_or (insert xs i y) (suc m) 0 ≡ get_or xs m 0 =
                subst (λ j. get_or (insert xs i y) j 0 ≡ get_or xs m 0) e (get_or-insert_above xs i y 0 m (omega (arith, c)) l) in
                omega (
                  arith,
                  up,
                  get_or-insert_above xs i y 0 (suc m) (omega (arith, c)) l,
                  subst (λ j. get_or xs m 0 < get_or xs j 0) e (r m (omega (arith, d))),
                )

pub search_has : (xs : List ℕ) (x : ℕ) (s : Result ℕ ℕ) → IsBinarySearchResult (λ y. nat_cmp y x) xs s → IsStrictlyIncreasing xs
    → (IsTrue (is_ok s) → Contains xs x) × (Contains xs x → IsTrue (is_ok s))
search_has xs x s b r = by s (searched xs x s b (not_falling xs r))
  where
    by : (s : Result ℕ ℕ) → MatchResult s (λ i. (i < length xs) × (get_or xs i 0 ≡ x))
        (λ i. (i ≤ length xs) × ((k : ℕ) → k < i → get_or xs k 0 < x) × ((k : ℕ) → i ≤ k → k < length xs → x < get_or xs k 0))
        → (IsTrue (is_ok s) → Contains xs x) × (Contains xs x → IsTrue (is_ok s))
    by (Ok i) (l, e) = ((λ t. (i, l, get_or_default_zero xs i x l ∙ e)), (λ h. refl))
    by (Err i) (l, low, high) = ((λ t. absurd (cc)), (λ h. absurd (none h (order h.0 i))))
      where
        none : (h : Contains xs x) → (h.0 < i) ⊎ (i ≤ h.0) → ⊥
        none h (inl a) = omega (arith, low h.0 a, sym (get_or_default_zero xs h.0 x h.1) ∙ h.2)
        none h (inr a) = omega (arith, high h.0 a h.1, sym (get_or_default_zero xs h.0 x h.1) ∙ h.2)

pub take_cases : (xs : List ℕ) (i d x : ℕ) → i < length xs → Contains (take (i + 1) xs) x → Contains (take i xs) x ⊎ (x ≡ slice_index_or xs i d)
take_cases xs i d x l h = turned (Contains-push_cases (take i xs) (get_or xs i d) x (subst (λ l. Contains l x) (take_more xs i d l) h))
  where
    turned : Contains (take i xs) x ⊎ (get_or xs i d ≡ x) → Contains (take i xs) x ⊎ (x ≡ get_or xs i d)
    turned (inl a) = inl a
    turned (inr e) = inr (sym e)

pub all_more : (xs ys : List ℕ) (i y : ℕ) (new : List ℕ) → i < length xs → y ≡ slice_index_or xs i 0 → HasAll (Contains (take i xs)) ys → IsWith ys y new
    → HasAll (Contains (take (i + 1) xs)) new
all_more xs ys i y new l e h w x c = by (take_cases xs i 0 x l c)
  where
    by : Contains (take i xs) x ⊎ (x ≡ slice_index_or xs i 0) → Contains new x
    by (inl a) = w.kept x (h x a)
    by (inr a) = subst (Contains new) (sym (a ∙ sym e)) w.has

length-insert : (xs : List ℕ) (i y : ℕ) → i ≤ length xs → length (insert xs i y) ≡ length xs + 1
length-insert xs i y l = omega (arith, length-append (take i xs) (y ∷ drop i xs), length-append (take i xs) (drop i xs), ap length (take-append-drop i xs))

pub search_missing : (xs : List ℕ) (x : ℕ) (s : Result ℕ ℕ) (i : ℕ) → IsBinarySearchResult (λ y. nat_cmp y x) xs s → IsStrictlyIncreasing xs → s ≡ Err i
    → IsStrictlyIncreasing (insert xs i x)
search_missing xs x s i b r e =
    by (subst (λ s. MatchResult s (λ i. (i < length xs) × (get_or xs i 0 ≡ x))
    (λ i. (i ≤ length xs) × ((k : ℕ) → k < i → get_or xs k 0 < x) × ((k : ℕ) → i ≤ k → k < length xs → x < get_or xs k 0))) e
    (searched xs x s b (not_falling xs r)))
  where
    by : (i ≤ length xs) × ((k : ℕ) → k < i → get_or xs k 0 < x) × ((k : ℕ) → i ≤ k → k < length xs → x < get_or xs k 0) → IsStrictlyIncreasing (insert xs i x)
    by (l, low, high) k h = insert_rises xs i x r l low high (length (insert xs i x)) (length-insert xs i x l) k h

-- ---- a position that is greater than all others

insert_last : (xs : List ℕ) (y : ℕ) → insert xs (length xs) y ≡ xs ++ y ∷ []
insert_last [] y = refl
insert_last (x ∷ xs) y = ap (λ l. x ∷ l) (insert_last xs y)

pub pushed : (xs : List ℕ) (y : ℕ) → IsWith xs y (xs ++ y ∷ [])
pushed xs y = subst (IsWith xs y) (insert_last xs y) (inserted xs (length xs) y)

pub push_rises : (xs : List ℕ) (y : ℕ) → IsStrictlyIncreasing xs → ((k : ℕ) → k < length xs → get_or xs k 0 < y) → IsStrictlyIncreasing (xs ++ y ∷ [])
push_rises xs y r low =
    let rises : IsStrictlyIncreasing (insert xs (length xs) y) =
    λ k h. insert_rises xs (length xs) y r (omega arith) low (λ j m l. absurd (omega (arith, m, l))) (length (insert xs (length xs) y))
    (length-insert xs (length xs) y (omega arith)) k h in
    subst IsStrictlyIncreasing (insert_last xs y) rises

pub all_below : (xs : List ℕ) (y : ℕ) → IsStrictlyIncreasing xs → 0 < length xs → get_or xs (length xs - 1) 0 < y → (k : ℕ) → k < length xs → get_or xs k 0 < y
all_below xs y r some l k h = omega (arith, not_falling xs r k (length xs - 1) (omega (arith, h)) (omega (arith, some)), l)

search_missed : (xs : List ℕ) (x : ℕ) (s : Result ℕ ℕ) (i : ℕ) → IsBinarySearchResult (λ y. nat_cmp y x) xs s → IsStrictlyIncreasing xs → s ≡ Err i
    → (i ≤ length xs) × ((k : ℕ) → k < i → get_or xs k 0 < x) × ((k : ℕ) → i ≤ k → k < length xs → x < get_or xs k 0)
search_missed xs x s i b r e =
    subst (λ s. MatchResult s (λ i. (i < length xs) × (get_or xs i 0 ≡ x))
    (λ i. (i ≤ length xs) × ((k : ℕ) → k < i → get_or xs k 0 < x) × ((k : ℕ) → i ≤ k → k < length xs → x < get_or xs k 0))) e
    (searched xs x s b (not_falling xs r))

read_at : (xs : List ℕ) (y : ℕ) → (h : Contains xs y) → get_or xs h.0 0 ≡ y
read_at xs y h = sym (get_or_default_zero xs h.0 y h.1) ∙ h.2

pub next_missing : (xs : List ℕ) (x : ℕ) (s : Result ℕ ℕ) (i : ℕ) → IsBinarySearchResult (λ y. nat_cmp y x) xs s → IsStrictlyIncreasing xs → s ≡ Err i
    → i < length xs → IsNext xs x (get_or xs i 0)
next_missing xs x s i b r e l = let m =
    search_missed xs x s i b r e in
    record { has = Contains-get_or xs i 0 l; above = omega (arith, m.2 i (omega arith) l); least = λ y h k. least y h k (order h.0 i) }
  where
    least : (y : ℕ) → (h : Contains xs y) → x ≤ y → (h.0 < i) ⊎ (i ≤ h.0) → get_or xs i 0 ≤ y
    least y h k (inl a) = absurd (omega (arith, k, read_at xs y h, (search_missed xs x s i b r e).1 h.0 a))
    least y h k (inr a) = omega (arith, read_at xs y h, not_falling xs r i h.0 a h.1)

pub none_left : (xs : List ℕ) (x : ℕ) (s : Result ℕ ℕ) (i : ℕ) → IsBinarySearchResult (λ y. nat_cmp y x) xs s → IsStrictlyIncreasing xs → s ≡ Err i
    → length xs ≤ i → (y : ℕ) → Contains xs y → y < x
none_left xs x s i b r e l y h = let m = search_missed xs x s i b r e in by (order h.0 i)
  where
    by : (h.0 < i) ⊎ (i ≤ h.0) → y < x
    by (inl a) = omega (arith, read_at xs y h, (search_missed xs x s i b r e).1 h.0 a)
    by (inr a) = absurd (omega (arith, a, h.1, l))
