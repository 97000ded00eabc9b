-- One more range of one of two lists that are merged.
use Rattle.std.proofs.Common.{◌≡◌, ℕ, ◌+◌, ◌<◌, ◌≤◌, ◌||◌, ◌⊎◌, inl, inr, Bool, true, false, List, [], length, take}
use Rattle.std.proofs.Common.{slice_index_or, refl, sym, ap, ap₂, ◌∙◌, arith, le_trans, subst}
use Rattle.std.proofs.lemmas.List.{get_or_default}
use Rattle.regex_class.specs.Ranges.{Range, in_range, in_ranges, range_at, IsCanonical, StartsAtMost}
use Rattle.regex_class.proofs.RangesLemmas.{in_ranges-more, or_assoc, rises_from-at, rises_from-mono}

or_swap : (a b r : Bool) → ((a || b) || r) ≡ ((a || r) || b)
or_swap true b r = refl
or_swap false true true = refl
or_swap false true false = refl
or_swap false false true = refl
or_swap false false false = refl

pub nothing_twice : (c : ℕ) → in_ranges [] c ≡ (in_ranges [] c || in_ranges [] c)
unfolding in_ranges
nothing_twice c = refl

-- the range that is read at i
pub read : (xs : List Range) (i : ℕ) (r : Range) → i < length xs → r ≡ slice_index_or xs i r → r ≡ range_at xs i
read xs i r h e = e ∙ get_or_default xs i r (0, 0) h

pub fits : (xs : List Range) (i : ℕ) (r : Range) → IsCanonical xs → i < length xs → r ≡ range_at xs i → (r.0 ≤ r.1) × (r.1 ≤ 0x10FFFF)
fits xs i r h lt e = let P : Range → Type 0 = λ x. (x.0 ≤ x.1) × (x.1 ≤ 0x10FFFF) in let at = rises_from-at 0 xs i h lt in subst P (sym e) (at.1, at.2)

pub members_left : (old new xs ys : List Range) (i j : ℕ) (r : Range) (c : ℕ) → i < length xs → r ≡ range_at xs i →
    in_ranges old c ≡ (in_ranges (take i xs) c || in_ranges (take j ys) c) → in_ranges new c ≡ (in_ranges old c || in_range r c) →
    in_ranges new c ≡ (in_ranges (take (i + 1) xs) c || in_ranges (take j ys) c)
members_left old new xs ys i j r c lt e so more =
    more ∙ ap₂ ◌||◌ so (ap (λ x. in_range x c) e)
    ∙ or_swap (in_ranges (take i xs) c) (in_ranges (take j ys) c) (in_range (range_at xs i) c)
    ∙ ap (λ b. b || in_ranges (take j ys) c) (sym (in_ranges-more xs i c lt))

pub members_right : (old new xs ys : List Range) (i j : ℕ) (r : Range) (c : ℕ) → j < length ys → r ≡ range_at ys j →
    in_ranges old c ≡ (in_ranges (take i xs) c || in_ranges (take j ys) c) → in_ranges new c ≡ (in_ranges old c || in_range r c) →
    in_ranges new c ≡ (in_ranges (take i xs) c || in_ranges (take (j + 1) ys) c)
members_right old new xs ys i j r c lt e so more =
    more ∙ ap₂ ◌||◌ so (ap (λ x. in_range x c) e)
    ∙ sym (or_assoc (in_ranges (take i xs) c) (in_ranges (take j ys) c) (in_range (range_at ys j) c))
    ∙ ap (λ b. in_ranges (take i xs) c || b) (sym (in_ranges-more ys j c lt))

-- the next range of the same list starts later
pub later : (new xs : List Range) (i : ℕ) (r : Range) → IsCanonical xs → r ≡ range_at xs i → StartsAtMost new r.0 → i + 1 < length xs
    → StartsAtMost new (range_at xs (i + 1)).0
later new xs i r h e s lt =
    let mono = (rises_from-mono 0 xs i (i + 1) h (omega arith) lt).0 in
    le_trans s (let P : Range → Type 0 = λ x. x.0 ≤ (range_at xs (i + 1)).0 in subst P (sym e) mono)

-- the next range of the other list starts no earlier
pub other : (new xs ys : List Range) (i j : ℕ) (r : Range) → r ≡ range_at xs i → StartsAtMost new r.0 → (range_at xs i).0 ≤ (range_at ys j).0
    → StartsAtMost new (range_at ys j).0
other new xs ys i j r e s le = le_trans s (let P : Range → Type 0 = λ x. x.0 ≤ (range_at ys j).0 in subst P (sym e) le)

-- the list that starts no later has a range left
pub left_first : (ls rs xs ys : List Range) (i j : ℕ) → ls ≡ xs → rs ≡ ys → (i < length ls) × (j < length rs → (range_at ls i).0 ≤ (range_at rs j).0)
    → (i < length xs) × (j < length ys → (range_at xs i).0 ≤ (range_at ys j).0)
left_first ls rs xs ys i j el er h =
    let P : List Range → Type 0 = λ l. (i < length l) × (j < length rs → (range_at l i).0 ≤ (range_at rs j).0) in
    let Q : List Range → Type 0 = λ l. (i < length xs) × (j < length l → (range_at xs i).0 ≤ (range_at l j).0) in subst Q er (subst P el h)

pub right_first : (ls rs xs ys : List Range) (i j : ℕ) → ls ≡ xs → rs ≡ ys → (i < length xs) ⊎ (j < length ys)
    → (i < length ls → (j < length rs) × ((range_at rs j).0 ≤ (range_at ls i).0)) → (j < length ys) × (i < length xs → (range_at ys j).0 ≤ (range_at xs i).0)
right_first ls rs xs ys i j el er some h =
    let P : List Range → Type 0 = λ l. i < length l → (j < length rs) × ((range_at rs j).0 ≤ (range_at l i).0) in
    let Q : List Range → Type 0 = λ l. i < length xs → (j < length l) × ((range_at l j).0 ≤ (range_at xs i).0) in
    let k = subst Q er (subst P el h) in (pick some k, λ lt. (k lt).1)
  where
    pick : (i < length xs) ⊎ (j < length ys) → (i < length xs → (j < length ys) × ((range_at ys j).0 ≤ (range_at xs i).0)) → j < length ys
    pick (inl lt) k = (k lt).0
    pick (inr lt) k = lt
