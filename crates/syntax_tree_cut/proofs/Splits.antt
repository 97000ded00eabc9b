-- A list of tokens, split at bounds.
use Rattle.std.proofs.Common.{◌≡◌, inl, inr, ℕ, zero, suc, ◌+◌, ◌-◌, ◌<◌, ◌≤◌, List, [], ◌∷◌, ◌++◌, Some, length, take, drop}
use Rattle.std.proofs.Common.{slice_get, slice_index, refl, sym, ap, ◌∙◌, subst, arith, length-take, length-drop}
use Rattle.std.proofs.lemmas.List.{drop-drop}
use Rattle.std.proofs.lemmas.List.Edits.{drop-paste, take-paste}
use lib.Seq.{paste}
use Rattle.std.specs.Prelude.{Bool, true, false, cond, nat_le, nat_lt}
use Rattle.std.specs.List.Sorted.{IsNonDecreasing, IsStrictlyIncreasing}
use Rattle.std.proofs.lemmas.Bool.{cases_lt, and_from, and_left, and_right, le-leb, lt-leb, lt-ltb, le-ltb}
use Rattle.std.proofs.lemmas.List.Sorted.{IsNonDecreasingBy-from_default}
use Rattle.syntax_tree.specs.LeftLaws.{is_within}
use Rattle.syntax_tree_cut.specs.inner.Tokens.{IsSplitAt, before, from_on, within}

pub not_falling : (xs : List ℕ) → IsStrictlyIncreasing xs → (i n : ℕ) → i + n < length xs → slice_index xs i ≤ slice_index xs (i + n)
not_falling xs up i zero lt =
    let same : i ≡ i + 0 = omega arith in
    let own : slice_index xs i ≤ slice_index xs i = omega arith in
    subst (λ k. slice_index xs i ≤ slice_index xs k) same own
not_falling xs up i (suc n) lt =
    let before : slice_index xs i ≤ slice_index xs (i + n) = not_falling xs up i n (omega (arith, lt)) in
    let next = up (i + n) (omega (arith, lt)) in
    let same : i + n + 1 ≡ i + suc n = omega arith in
    let step : slice_index xs (i + n) < slice_index xs (i + suc n) = subst (λ k. slice_index xs (i + n) < slice_index xs k) same next in
    omega (arith, before, step)

pub in_order : (xs : List ℕ) → IsStrictlyIncreasing xs → IsNonDecreasing xs
in_order xs up = IsNonDecreasingBy-from_default (λ x. x) xs 0 (λ i j le lt.
    let same : i + (j - i) ≡ j = omega (arith, le) in
    let go : slice_index xs i ≤ slice_index xs (i + (j - i)) = not_falling xs up i (j - i) (omega (arith, le, lt)) in
    subst (λ k. slice_index xs i ≤ slice_index xs k) same go)

-- the same facts of the rest of a list
rest_split : (x : ℕ) (xs : List ℕ) (bound count : ℕ) → IsSplitAt (x ∷ xs) bound (suc count) → IsSplitAt xs bound count
rest_split x xs bound count at = record {
  among = let h = at.among in omega (arith, h);
  less = λ k lt. at.less (suc k) (omega (arith, lt));
  others = λ k le lt. at.others (suc k) (omega (arith, le)) (omega (arith, lt));
}

later_split : (x : ℕ) (xs : List ℕ) (bound : ℕ) → IsSplitAt (x ∷ xs) bound 0 → IsSplitAt xs bound 0
later_split x xs bound at = record {
  among = omega arith;
  less = λ k lt. absurd (omega (arith, lt));
  others = λ k le lt. at.others (suc k) (omega arith) (omega (arith, lt));
}

-- a test of the first element
tested : (b : Bool) (x : ℕ) (xs ys : List ℕ) → b ≡ true → cond b (x ∷ xs) xs ≡ x ∷ xs
tested b x xs ys e = ap (λ (c : Bool). cond c (x ∷ xs) xs) e

untested : (b : Bool) (x : ℕ) (xs : List ℕ) → b ≡ false → cond b (x ∷ xs) xs ≡ xs
untested b x xs e = ap (λ (c : Bool). cond c (x ∷ xs) xs) e

pub take_is : (tokens : List ℕ) (bound count : ℕ) → IsSplitAt tokens bound count → take count tokens ≡ before bound tokens
take_is [] bound zero at = refl
take_is [] bound (suc count) at = refl
take_is (x ∷ xs) bound zero at =
    sym (untested (nat_lt x bound) x (before bound xs) (le-ltb x bound (at.others 0 (omega arith) (omega arith)))
    ∙ sym (take_is xs bound 0 (later_split x xs bound at)) ∙ take_none xs)
  where
    take_none : (ys : List ℕ) → take 0 ys ≡ []
    take_none [] = refl
    take_none (y ∷ ys) = refl
take_is (x ∷ xs) bound (suc count) at =
    ap (λ (l : List ℕ). x ∷ l) (take_is xs bound count (rest_split x xs bound count at))
    ∙ sym (tested (nat_lt x bound) x (before bound xs) [] (lt-ltb x bound (at.less 0 (omega arith))))

pub drop_is : (tokens : List ℕ) (bound count : ℕ) → IsSplitAt tokens bound count → drop count tokens ≡ from_on bound tokens
drop_is [] bound zero at = refl
drop_is [] bound (suc count) at = refl
drop_is (x ∷ xs) bound zero at =
    sym (tested (nat_le bound x) x (from_on bound xs) [] (le-leb bound x (at.others 0 (omega arith) (omega arith)))
    ∙ ap (λ (l : List ℕ). x ∷ l) (sym (drop_is xs bound 0 (later_split x xs bound at)) ∙ drop_none xs))
  where
    drop_none : (ys : List ℕ) → drop 0 ys ≡ ys
    drop_none [] = refl
    drop_none (y ∷ ys) = refl
drop_is (x ∷ xs) bound (suc count) at =
    drop_is xs bound count (rest_split x xs bound count at)
    ∙ sym (untested (nat_le bound x) x (from_on bound xs) (lt-leb bound x (at.less 0 (omega arith))))

pub between_is : (tokens : List ℕ) (first end from n : ℕ) → IsSplitAt tokens first from → IsSplitAt tokens end (from + n) → first ≤ end
    → take n (drop from tokens) ≡ within first end tokens
between_is [] first end zero zero at to le = refl
between_is [] first end zero (suc n) at to le = refl
between_is [] first end (suc from) zero at to le = refl
between_is [] first end (suc from) (suc n) at to le = refl
between_is (x ∷ xs) first end zero zero at to le =
    sym (untested (is_within first end x) x (within first end xs)
    (and_right (nat_le first x) (nat_lt x end) (le-ltb x end (to.others 0 (omega arith) (omega arith))))
    ∙ sym (between_is xs first end 0 0 (later_split x xs first at)
    (later_split x xs end (subst (λ k. IsSplitAt (x ∷ xs) end k) (let e : 0 + 0 ≡ 0 = omega arith in e) to)) le) ∙ take_none (drop 0 xs))
  where
    take_none : (ys : List ℕ) → take 0 ys ≡ []
    take_none [] = refl
    take_none (y ∷ ys) = refl
between_is (x ∷ xs) first end zero (suc n) at to le =
    ap (λ (l : List ℕ). x ∷ take n l) (sym (drop_none xs))
    ∙ ap (λ (l : List ℕ). x ∷ l) (between_is xs first end 0 n (later_split x xs first at)
    (subst (λ k. IsSplitAt xs end k) (let e : n ≡ 0 + n = omega arith in e)
    (rest_split x xs end n (subst (λ k. IsSplitAt (x ∷ xs) end k) (let e : 0 + suc n ≡ suc n = omega arith in e) to))) le)
    ∙ sym (tested (is_within first end x) x (within first end xs) []
    (and_from (nat_le first x) (nat_lt x end) (le-leb first x (at.others 0 (omega arith) (omega arith))) (lt-ltb x end (to.less 0 (omega arith)))))
  where
    drop_none : (ys : List ℕ) → drop 0 ys ≡ ys
    drop_none [] = refl
    drop_none (y ∷ ys) = refl
between_is (x ∷ xs) first end (suc from) n at to le =
    between_is xs first end from n (rest_split x xs first from at)
    (rest_split x xs end (from + n) (subst (λ k. IsSplitAt (x ∷ xs) end k) (let e : suc from + n ≡ suc (from + n) = omega arith in e) to)) le
    ∙ sym (untested (is_within first end x) x (within first end xs) (and_left (nat_le first x) (nat_lt x end) (lt-leb first x (at.less 0 (omega arith)))))

-- the counts rise with the bounds
pub counts_rise : (tokens : List ℕ) (first end i j : ℕ) → IsSplitAt tokens first i → IsSplitAt tokens end j → first ≤ end → i ≤ j
counts_rise tokens first end i j at to le =
    elim (cases_lt j i) [
      | inl lt ↦ absurd (let a = at.among in let low = at.less j lt in let high = to.others j (omega arith) (omega (arith, lt, a)) in
          omega (arith, low, high, le))
      | inr le ↦ le
    ]

pub count_is : (tokens : List ℕ) (first end i j : ℕ) → IsSplitAt tokens first i → IsSplitAt tokens end j → first ≤ end
    → j - i ≡ length (within first end tokens)
count_is tokens first end i j at to le =
    let up = counts_rise tokens first end i j at to le in
    let same : j ≡ i + (j - i) = omega (arith, up) in
    let part = between_is tokens first end i (j - i) at (subst (λ k. IsSplitAt tokens end k) same to) le in
    let long = length-take (j - i) (drop i tokens) in
    let rest = length-drop i tokens in
    let total = ap length part in
    let a = to.among in
    omega (arith, long, rest, total, a, up)

-- a part of a list in place of a longer one
pub part_kept : (xs ys : List ℕ) (from to first n : ℕ) → from + n ≤ to → to ≤ length xs → first + n ≤ length xs → ys ≡ paste xs from (drop first xs) n
    → take (from + n) ys ++ drop to ys ≡ take from xs ++ take n (drop first xs) ++ drop to xs
part_kept xs ys from to first n fits within long is =
    let rest = length-drop first xs in
    let k : ℕ = to - (from + n) in
    let all : (from + n) + k ≡ to = omega (arith, fits) in
    let front : take (from + n) ys ≡ take from xs ++ take n (drop first xs) =
    ap (take (from + n)) is ∙ take-paste xs from (drop first xs) n (omega (arith, fits, within)) (omega (arith, rest, long)) in
    let back : drop to ys ≡ drop to xs =
    ap (λ (m : ℕ). drop m ys) (sym all)
    ∙ sym (drop-drop k (from + n) ys)
    ∙ ap (λ (l : List ℕ). drop k (drop (from + n) l)) is
    ∙ ap (drop k) (drop-paste xs from (drop first xs) n (omega (arith, fits, within)) (omega (arith, rest, long)))
    ∙ drop-drop k (from + n) xs
    ∙ ap (λ (m : ℕ). drop m xs) all in
    ap (λ (l : List ℕ). l ++ drop to ys) front ∙ ap (λ (l : List ℕ). take from xs ++ take n (drop first xs) ++ l) back

-- what the spans of two nodes say of the counts
pub fewer_fit : (tokens : List ℕ) (a b i j m n : ℕ) (first end : ℕ) → IsSplitAt tokens a i → IsSplitAt tokens b j → IsSplitAt tokens first m
    → IsSplitAt tokens end n → a ≤ b → first ≤ end → length (within first end tokens) ≤ length (within a b tokens) →
    (i + (n - m) ≤ j) × (j ≤ length tokens) × (m ≤ n) × (m + (n - m) ≤ length tokens)
fewer_fit tokens a b i j m n first end at to at' to' le le' fewer =
    let up = counts_rise tokens a b i j at to le in
    let up' = counts_rise tokens first end m n at' to' le' in
    let long = count_is tokens a b i j at to le in
    let short = count_is tokens first end m n at' to' le' in
    let top = to.among in
    let top' = to'.among in
    (omega (arith, up, long, short, fewer), top, up', omega (arith, up', top'))

pub replaced_part : (xs zs : List ℕ) (a b first end i j m n : ℕ) → IsSplitAt xs a i → IsSplitAt xs b j → IsSplitAt xs first m → IsSplitAt xs end n → first ≤ end
    → m ≤ n →
    zs ≡ take i xs ++ take (n - m) (drop m xs) ++ drop j xs → zs ≡ before a xs ++ within first end xs ++ from_on b xs
replaced_part xs zs a b first end i j m n at to at' to' le up is =
    let same : n ≡ m + (n - m) = omega (arith, up) in
    is
    ∙ ap (λ (l : List ℕ). l ++ take (n - m) (drop m xs) ++ drop j xs) (take_is xs a i at)
    ∙ ap (λ (l : List ℕ). before a xs ++ l ++ drop j xs) (between_is xs first end m (n - m) at' (subst (λ k. IsSplitAt xs end k) same to') le)
    ∙ ap (λ (l : List ℕ). before a xs ++ within first end xs ++ l) (drop_is xs b j to)

-- no token is within a span that ends before all of them
none_within : (first end : ℕ) (tokens : List ℕ) → ((k : ℕ) → k < length tokens → end ≤ slice_index tokens k) → within first end tokens ≡ []
none_within first end [] after = refl
none_within first end (x ∷ xs) after =
    untested (is_within first end x) x (within first end xs) (and_right (nat_le first x) (nat_lt x end) (le-ltb x end (after 0 (omega arith))))
    ∙ none_within first end xs (λ k lt. after (suc k) (omega (arith, lt)))

rest_rises : (x : ℕ) (xs : List ℕ) → IsStrictlyIncreasing (x ∷ xs) → IsStrictlyIncreasing xs
rest_rises x xs up =
    λ k lt. subst (λ (m : ℕ). slice_index xs k < slice_index (x ∷ xs) m) (let e : suc k + 1 ≡ suc (k + 1) = omega arith in e) (up (suc k) (omega (arith, lt)))

-- the first token of a span is the one that the span's beginning splits at
pub first_is : (tokens : List ℕ) (first end from : ℕ) → IsStrictlyIncreasing tokens → IsSplitAt tokens first from → 0 < length (within first end tokens) →
    (from < length tokens) × (slice_get (within first end tokens) 0 ≡ Some (slice_index tokens from))
first_is [] first end from up at some = absurd (omega (arith, some))
first_is (x ∷ xs) first end (suc from) up at some =
    let skipped : within first end (x ∷ xs) ≡ within first end xs =
    untested (is_within first end x) x (within first end xs) (and_left (nat_le first x) (nat_lt x end) (lt-leb first x (at.less 0 (omega arith)))) in
    let rest = first_is xs first end from (rest_rises x xs up) (rest_split x xs first from at) (subst (λ (l : List ℕ). 0 < length l) skipped some) in
    (omega (arith, rest.0), ap (λ (l : List ℕ). slice_get l 0) skipped ∙ rest.1)
first_is (x ∷ xs) first end zero up at some =
    elim (cases_lt x end) [
      | inl before ↦ (
        omega arith,
        ap (λ (l : List ℕ). slice_get l 0) (tested (is_within first end x) x (within first end xs) []
            (and_from (nat_le first x) (nat_lt x end) (le-leb first x (at.others 0 (omega arith) (omega arith))) (lt-ltb x end before))),
      )
      | inr after ↦ absurd (
          let above : (k : ℕ) → k < length (x ∷ xs) → end ≤ slice_index (x ∷ xs) k =
          λ k lt. (let up_to = not_falling (x ∷ xs) up 0 k (omega (arith, lt)) in let here : 0 + k ≡ k = omega arith in
          let le = subst (λ (m : ℕ). x ≤ slice_index (x ∷ xs) m) here up_to in omega (arith, after, le)) in
          let nothing = ap length (none_within first end (x ∷ xs) above) in
          omega (arith, some, nothing))
    ]

pub rises_after : (xs ys : List ℕ) → IsStrictlyIncreasing (xs ++ ys) → IsStrictlyIncreasing ys
rises_after [] ys up = up
rises_after (x ∷ xs) ys up = rises_after xs ys (rest_rises x (xs ++ ys) up)
