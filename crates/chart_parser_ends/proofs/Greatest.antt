-- The first and the greatest of rising positions.
use Rattle.std.proofs.Common.{◌≡◌, ℕ, zero, suc, ◌+◌, ◌<◌, ◌≤◌, ◌⊎◌, inl, inr, List, [], ◌∷◌, length, get_or, take}
use Rattle.std.proofs.Common.{Option, Some, None, nat_cmp, refl, sym, ap, ◌∙◌, subst, arith}
use Rattle.std.proofs.lemmas.Grind.{get_or_default_zero}
use Rattle.std.proofs.lemmas.List.Elements.{Contains-get_or}
use Rattle.std.proofs.lemmas.List.Kept.{AllPairs-from_increasing}
use Rattle.std.proofs.lemmas.List.Sorted.{searched}
use Rattle.std.specs.List.{Contains}
use Rattle.std.specs.List.Sorted.{IsStrictlyIncreasing, IsBinarySearchResult}
use Rattle.std.specs.Prelude.{Result, Ok, Err, MatchResult}
use Rattle.chart_parser_ends.specs.Positions.{HasAll, HasExactly, IsGreatest, IsGrown, IsLastAmong}
use Rattle.chart_parser_ends.specs.inner.Positions.{IsUpTo}
use Rattle.chart_parser_ends.proofs.Rising.{not_falling, order}

-- The positions before the index n are at most x, and the others are greater.
abbrev pub IsCut : List ℕ → ℕ → ℕ → Type 0
IsCut xs x n = (n ≤ length xs) × ((k : ℕ) → k < n → get_or xs k 0 ≤ x) × ((k : ℕ) → n ≤ k → k < length xs → x < get_or xs k 0)

abbrev Search : List ℕ → ℕ → Result ℕ ℕ → Type 0
Search xs x s =
    MatchResult s (λ i. (i < length xs) × (get_or xs i 0 ≡ x))
    (λ i. (i ≤ length xs) × ((k : ℕ) → k < i → get_or xs k 0 < x) × ((k : ℕ) → i ≤ k → k < length xs → x < get_or xs k 0))

pub cut_found : (xs : List ℕ) (x : ℕ) (s : Result ℕ ℕ) (i : ℕ) → IsBinarySearchResult (λ y. nat_cmp y x) xs s → IsStrictlyIncreasing xs → s ≡ Ok i
    → IsCut xs x (i + 1)
cut_found xs x s i b r e = by (subst (Search xs x) e (searched xs x s b (not_falling xs r)))
  where
    by : (i < length xs) × (get_or xs i 0 ≡ x) → IsCut xs x (i + 1)
    by (l, at) = (
      omega (arith, l),
      λ k h. omega (arith, at, not_falling xs r k i (omega (arith, h)) l),
      λ k h m. omega (arith, at, AllPairs-from_increasing xs r i k 0 (omega (arith, h)) m),
    )

pub cut_missing : (xs : List ℕ) (x : ℕ) (s : Result ℕ ℕ) (i : ℕ) → IsBinarySearchResult (λ y. nat_cmp y x) xs s → IsStrictlyIncreasing xs → s ≡ Err i
    → IsCut xs x i
cut_missing xs x s i b r e = by (subst (Search xs x) e (searched xs x s b (not_falling xs r)))
  where
    by : (i ≤ length xs) × ((k : ℕ) → k < i → get_or xs k 0 < x) × ((k : ℕ) → i ≤ k → k < length xs → x < get_or xs k 0) → IsCut xs x i
    by (l, low, high) = (l, λ k h. omega (arith, low k h), high)

take_length : (xs : List ℕ) (n : ℕ) → n ≤ length xs → length (take n xs) ≡ n
take_length xs zero l = refl
take_length [] (suc n) l = absurd (omega (arith, l))
take_length (x ∷ xs) (suc n) l = ap suc (take_length xs n (omega (arith, l)))

take_at : (xs : List ℕ) (n k d : ℕ) → k < n → get_or (take n xs) k d ≡ get_or xs k d
take_at xs zero k d l = absurd (omega (arith, l))
take_at [] (suc n) k d l = refl
take_at (x ∷ xs) (suc n) zero d l = refl
take_at (x ∷ xs) (suc n) (suc k) d l = take_at xs n k d (omega (arith, l))

pub cut_off : (xs : List ℕ) (last n : ℕ) → IsCut xs last n → (x : ℕ) → (Contains (take n xs) x → IsUpTo xs last x) × (IsUpTo xs last x → Contains (take n xs) x)
cut_off xs last n (bound, below, above) x = (to, back)
  where
    long : length (take n xs) ≡ n
    long = take_length xs n bound

    to : Contains (take n xs) x → IsUpTo xs last x
    to (k, l, e) =
        let h : k < n = omega (arith, l, long) in
        let same : get_or xs k x ≡ x = sym (take_at xs n k x h) ∙ e in
        ((k, omega (arith, h, bound), same), omega (arith, below k h, sym (get_or_default_zero xs k x (omega (arith, h, bound))) ∙ same))

    back : IsUpTo xs last x → Contains (take n xs) x
    back ((k, l, e), m) = by (order k n)
      where
        by : (k < n) ⊎ (n ≤ k) → Contains (take n xs) x
        by (inl h) = (k, omega (arith, h, long), take_at xs n k x h ∙ e)
        by (inr h) = absurd (omega (arith, above k h l, m, sym (get_or_default_zero xs k x l) ∙ e))

-- None of the positions after the index n is one of which P holds.
abbrev pub NoneAfter : (ℕ → Type 0) → List ℕ → ℕ → Type 0
NoneAfter P xs n = (k : ℕ) → n ≤ k → k < length xs → P (get_or xs k 0) → ⊥

pub none_more : (P : ℕ → Type 0) (xs : List ℕ) (n m : ℕ) → n ≡ m + 1 → (P (get_or xs m 0) → ⊥) → NoneAfter P xs n → NoneAfter P xs m
none_more P xs n m e here none k l h p = by (order m k)
  where
    by : (m < k) ⊎ (k ≤ m) → ⊥
    by (inl j) = none k (omega (arith, e, j)) h p
    by (inr j) = let same : k ≡ m = omega (arith, l, j) in here (subst (λ i. P (get_or xs i 0)) same p)

pub greatest_at : (P : ℕ → Type 0) (xs : List ℕ) (n m : ℕ) → IsStrictlyIncreasing xs → n ≡ m + 1 → n ≤ length xs → P (get_or xs m 0) → NoneAfter P xs n
    → IsGreatest P xs (get_or xs m 0)
greatest_at P xs n m r e l p none = record { has = Contains-get_or xs m 0 (omega (arith, l, e)); holds = p; greatest = λ y c q. by y c q (order m c.0) }
  where
    by : (y : ℕ) (c : Contains xs y) → P y → (m < c.0) ⊎ (c.0 ≤ m) → y ≤ get_or xs m 0
    by y c q (inl j) = absurd (none c.0 (omega (arith, e, j)) c.1 (subst P (sym (sym (get_or_default_zero xs c.0 y c.1) ∙ c.2)) q))
    by y c q (inr j) = omega (arith, not_falling xs r c.0 m j (omega (arith, l, e)), sym (get_or_default_zero xs c.0 y c.1) ∙ c.2)

pub none_at_all : (P : ℕ → Type 0) (xs : List ℕ) → NoneAfter P xs 0 → (x : ℕ) → Contains xs x → P x → ⊥
none_at_all P xs none x (k, l, e) p = none k (omega arith) l (subst P (sym (sym (get_or_default_zero xs k x l) ∙ e)) p)

-- The greatest that two lists have in common, whichever is gone through.
pub last_turned : (xs ys : List ℕ) (o : Option ℕ) → IsLastAmong (Contains ys) xs o → IsLastAmong (Contains xs) ys o
last_turned xs ys None h = λ x c d. h x d c
last_turned xs ys (Some x) h = record { has = h.holds; holds = h.has; greatest = λ y c d. h.greatest y d c }

pub last_exactly : (P : ℕ → Type 0) (ends among : List ℕ) (o : Option ℕ) → HasExactly P ends → IsLastAmong (Contains ends) among o → IsLastAmong P among o
last_exactly P ends among None e h = λ x c p. h x c (e.all x p)
last_exactly P ends among (Some x) e h = record { has = h.has; holds = e.only x h.holds; greatest = λ y c p. h.greatest y c (e.all y p) }

abbrev UpTo : (ℕ → Type 0) → ℕ → ℕ → Type 0
UpTo P last x = P x × (x ≤ last)

pub grown_up_to : (P : ℕ → Type 0) (ends some old new : List ℕ) (last : ℕ) → HasExactly P ends
    → ((x : ℕ) → (Contains some x → IsUpTo ends last x) × (IsUpTo ends last x → Contains some x)) → IsGrown (Contains some) old new
    → IsGrown (UpTo P last) old new
grown_up_to P ends some old new last e up g = record { only = λ x c. by x (g.only x c); kept = g.kept }
  where
    by : (x : ℕ) → Contains old x ⊎ Contains some x → Contains old x ⊎ UpTo P last x
    by x (inl c) = inl c
    by x (inr c) = let (h, l) = (up x).0 c in inr (e.only x h, l)

pub all_up_to : (P : ℕ → Type 0) (ends some new : List ℕ) (last : ℕ) → HasExactly P ends
    → ((x : ℕ) → (Contains some x → IsUpTo ends last x) × (IsUpTo ends last x → Contains some x)) → HasAll (Contains some) new → HasAll (UpTo P last) new
all_up_to P ends some new last e up all x (p, l) = all x ((up x).1 (e.all x p, l))
