-- How a star or plus is cut into its elements.
use Rattle.std.proofs.Common.{◌≡◌, ℕ, zero, suc, ◌+◌, ◌-◌, ◌<◌, ◌≤◌, ◌⊎◌, inl, inr, List, [], ◌∷◌, ◌++◌, Option, Some, None}
use Rattle.std.proofs.Common.{length, get_or, drop, refl, sym, ap, ◌∙◌, subst, arith, append_assoc}
use Rattle.std.proofs.lemmas.Bool.{cases_lt}
use Rattle.std.proofs.lemmas.Grind.{get_or_default_zero}
use Rattle.std.proofs.lemmas.List.{append-nil, drop_all, drop_at, drop_more, drop-set, get_or_append_left, get_or-set_other, length-set, length_push}
use Rattle.std.proofs.lemmas.List.Elements.{Contains-get_or}
use Rattle.std.proofs.lemmas.List.Kept.{AllPairs-from_increasing}
use Rattle.std.proofs.Math.ListN.{set}
use Rattle.std.specs.List.{Contains}
use Rattle.std.specs.List.Sorted.{IsStrictlyIncreasing}
use Rattle.normal_form.specs.declared.normal.Sym.{Sym}
use Rattle.normal_form.specs.Form.{NormalForm}
use Rattle.normal_form.specs.Spans.{DerivesSpan, DerivesSpanMany}
use Rattle.syntax_tree.specs.Preferred.{IsLongest}
use Rattle.chart_parser_ends.specs.Positions.{EndsUpTo, HasAll, HasExactly, IsGrown, IsGreatest, IsLastAmong}
use Rattle.chart_parser_ends.proofs.Lent.{joins, lists, spans}
use Rattle.chart_parser.specs.declared.part.Part.{Part}
use Rattle.chart_parser.specs.inner.GoingOn.{ElementsGoOn, HasEndsOfElements, IsClosedBefore, IsListOf, MovesOn}
use Rattle.chart_parser.specs.inner.Parts.{AreElements, IsPart}

-- elements of lists without their first ones
in_later : (n : ℕ) (xs : List ℕ) (x : ℕ) (h : Contains xs x) → n ≤ h.0 → Contains (drop n xs) x
in_later zero xs x h l = h
in_later (suc n) [] x h l = absurd (omega (arith, h.1))
in_later (suc n) (y ∷ xs) x (zero, a, e) l = absurd (omega (arith, l))
in_later (suc n) (y ∷ xs) x (suc k, a, e) l = in_later n xs x (k, omega (arith, a), e) (omega (arith, l))

from_later : (n : ℕ) (xs : List ℕ) (x : ℕ) → Contains (drop n xs) x → (k : ℕ) × (n ≤ k) × (k < length xs) × (get_or xs k 0 ≡ x)
from_later zero xs x (k, l, e) = (k, omega arith, l, sym (get_or_default_zero xs k x l) ∙ e)
from_later (suc n) [] x (k, l, e) = absurd (omega (arith, l))
from_later (suc n) (y ∷ xs) x h = let (k, a, b, e) = from_later n xs x h in (suc k, omega (arith, a), omega (arith, b), e)

in_cons : (y : ℕ) (xs : List ℕ) (x : ℕ) → Contains (y ∷ xs) x → Contains xs x ⊎ (x ≡ y)
in_cons y xs x (zero, l, e) = inr (sym e)
in_cons y xs x (suc k, l, e) = inl (k, omega (arith, l), e)

cons_later : (y : ℕ) (xs : List ℕ) (x : ℕ) → Contains xs x → Contains (y ∷ xs) x
cons_later y xs x (k, l, e) = (suc k, omega (arith, l), e)

cons_first : (y : ℕ) (xs : List ℕ) → Contains (y ∷ xs) y
cons_first y xs = (0, omega arith, refl)

contains_none : (x : ℕ) → Contains [] x → ⊥
contains_none x (k, l, e) = omega (arith, l)

cons_rises : (y : ℕ) (xs : List ℕ) → IsStrictlyIncreasing xs → ((x : ℕ) → Contains xs x → y < x) → IsStrictlyIncreasing (y ∷ xs)
cons_rises y [] rising above k h = absurd (omega (arith, h))
cons_rises y (x ∷ xs) rising above zero h = above x (cons_first x xs)
cons_rises y (x ∷ xs) rising above (suc k) h = let e : suc (k + 1) ≡ suc k + 1 =
    omega arith in subst (λ (m : ℕ). get_or (y ∷ x ∷ xs) (suc k) 0 < get_or (y ∷ x ∷ xs) m 0) e (rising k (omega (arith, h)))

-- what is after a position of a rising list is greater, and what is greater is after it
later_is_greater : (xs : List ℕ) (n x : ℕ) → IsStrictlyIncreasing xs → Contains (drop (n + 1) xs) x → get_or xs n 0 < x
later_is_greater xs n x rising c = let (k, a, b, e) =
    from_later (n + 1) xs x c in omega (arith, AllPairs-from_increasing xs rising n k 0 (omega (arith, a)) b, e)

greater_is_later : (xs : List ℕ) (n x : ℕ) → IsStrictlyIncreasing xs → n < length xs → Contains xs x → get_or xs n 0 < x → Contains (drop (n + 1) xs) x
greater_is_later xs n x rising l h lt = in_later (n + 1) xs x h (by (cases_lt n h.0) (cases_lt h.0 n))
  where
    read : get_or xs h.0 0 ≡ x
    read = sym (get_or_default_zero xs h.0 x h.1) ∙ h.2

    by : (n < h.0) ⊎ (h.0 ≤ n) → (h.0 < n) ⊎ (n ≤ h.0) → n + 1 ≤ h.0
    by (inl a) b = omega (arith, a)
    by (inr a) (inl b) = absurd (omega (arith, AllPairs-from_increasing xs rising h.0 n 0 b l, read, lt))
    by (inr a) (inr b) = let e : n ≡ h.0 = omega (arith, a, b) in absurd (omega (arith, ap (λ (k : ℕ). get_or xs k 0) e, read, lt))

module _ (N : NormalForm) (K : List ℕ) (s : Sym) where
  pub many_within : (i j : ℕ) → DerivesSpanMany N K s i j → (i ≤ j) × (j ≤ length K)
  many_within i j d = let x = ((lists N K).many s i j).0 d in (x.0, x.1)

  -- The positions from n on of those before j, and j, of which those are at the end of the list from which elements go on to j.
  pub record AreMoved (before : List ℕ) (j n from : ℕ) (positions : List ℕ) : Type 0 where
    pub ordered : n ≤ from
    pub within : from < length positions
    pub length_is : length positions ≡ length before + 1
    pub earlier : (k : ℕ) → k < n → get_or positions k 0 ≡ get_or before k 0
    pub exactly : HasExactly (ElementsGoOn N K s j (drop n before)) (drop from positions)

  pub moved_begin : (before : List ℕ) (j n : ℕ) → n ≡ length before → j ≤ length K → AreMoved before j n n (before ++ j ∷ [])
  moved_begin before j n e w = record {
    ordered = omega arith;
    within = omega (arith, e, length_push before j);
    length_is = length_push before j;
    earlier = λ k l. get_or_append_left before (j ∷ []) 0 k (omega (arith, l, e));
    exactly = subst (HasExactly (ElementsGoOn N K s j (drop n before))) (sym (drop_at before (j ∷ []) n (sym e))) (record {
      rising = λ k h. absurd (omega (arith, h));
      only = only;
      all = all;
    });
  }
    where
      none : drop n before ≡ []
      none = drop_all n before (omega (arith, e))

      only : (x : ℕ) → Contains (j ∷ []) x → ElementsGoOn N K s j (drop n before) x
      only x c = elim (in_cons j [] x c) [
        | inl a ↦ absurd (contains_none x a)
        | inr a ↦ (inr a, subst (λ (y : ℕ). DerivesSpanMany N K s y j) (sym a) (DerivesSpanMany.of_end j w))
      ]

      all : (x : ℕ) → ElementsGoOn N K s j (drop n before) x → Contains (j ∷ []) x
      all x (inl a, d) = absurd (contains_none x (subst (λ (l : List ℕ). Contains l x) none a))
      all x (inr a, d) = subst (Contains (j ∷ [])) (sym a) (cons_first j [])

  -- From one position more elements go on.
  pub moved_more : (before : List ℕ) (j n m from last p : ℕ) (positions : List ℕ) (found : Option ℕ) (e : ℕ) → n ≡ m + 1 → from ≡ last + 1 → m < length before
      → IsStrictlyIncreasing before → ((x : ℕ) → Contains before x → x < j) →
      AreMoved before j n from positions → p ≡ get_or positions m 0 → IsLastAmong (DerivesSpan N K s p) (drop from positions) found → found ≡ Some e
      → AreMoved before j m last (set positions last p)
  moved_more before j n m from last p positions found e en ef l rising below moved at is-last is = record {
    ordered = omega (arith, moved.ordered, en, ef);
    within = omega (arith, moved.within, ef, length-set positions last p);
    length_is = length-set positions last p ∙ moved.length_is;
    earlier = earlier;
    exactly =
        subst (HasExactly (ElementsGoOn N K s j (drop m before))) (sym dropped)
        (record { rising = cons_rises p (drop from positions) moved.exactly.rising above; only = only; all = all });
  }
    where
      p_is : p ≡ get_or before m 0
      p_is = at ∙ moved.earlier m (omega (arith, en))

      dropped : drop last (set positions last p) ≡ p ∷ drop from positions
      dropped = drop-set positions last p (omega (arith, moved.within, ef)) ∙ ap (λ (k : ℕ). p ∷ drop k positions) (sym ef)

      split : drop m before ≡ p ∷ drop n before
      split = drop_more before m 0 l ∙ ap (λ (x : ℕ). x ∷ drop (m + 1) before) (sym p_is) ∙ ap (λ (k : ℕ). p ∷ drop k before) (sym en)

      greatest : IsGreatest (DerivesSpan N K s p) (drop from positions) e
      greatest = subst (IsLastAmong (DerivesSpan N K s p) (drop from positions)) is is-last

      earlier : (k : ℕ) → k < m → get_or (set positions last p) k 0 ≡ get_or before k 0
      earlier k a = get_or-set_other positions last k p 0 (λ f. omega (arith, f, a, moved.ordered, en, ef)) ∙ moved.earlier k (omega (arith, a, en))

      later : (x : ℕ) → Contains (drop n before) x → p < x
      later x c = omega (arith, p_is, later_is_greater before m x rising (subst (λ (k : ℕ). Contains (drop k before) x) en c))

      above : (x : ℕ) → Contains (drop from positions) x → p < x
      above x c = by (moved.exactly.only x c).0
        where
          by : Contains (drop n before) x ⊎ (x ≡ j) → p < x
          by (inl a) = later x a
          by (inr a) = omega (arith, a, p_is, below (get_or before m 0) (Contains-get_or before m 0 l))

      only : (x : ℕ) → Contains (p ∷ drop from positions) x → ElementsGoOn N K s j (drop m before) x
      only x c = by (in_cons p (drop from positions) x c)
        where
          wider : Contains (drop n before) x ⊎ (x ≡ j) → Contains (drop m before) x ⊎ (x ≡ j)
          wider (inl a) = inl (subst (λ (l : List ℕ). Contains l x) (sym split) (cons_later p (drop n before) x a))
          wider (inr a) = inr a

          by : Contains (drop from positions) x ⊎ (x ≡ p) → ElementsGoOn N K s j (drop m before) x
          by (inl a) = let g = moved.exactly.only x a in (wider g.0, g.1)
          by (inr a) = (
            inl (subst (λ (l : List ℕ). Contains l x) (sym split) (subst (Contains (p ∷ drop n before)) (sym a) (cons_first p (drop n before)))),
            subst (λ (y : ℕ). DerivesSpanMany N K s y j) (sym a) (DerivesSpanMany.of_more p e j greatest.holds (moved.exactly.only e greatest.has).1),
          )

      all : (x : ℕ) → ElementsGoOn N K s j (drop m before) x → Contains (p ∷ drop from positions) x
      all x (inl a, d) = by (in_cons p (drop n before) x (subst (λ (l : List ℕ). Contains l x) split a))
        where
          by : Contains (drop n before) x ⊎ (x ≡ p) → Contains (p ∷ drop from positions) x
          by (inl b) = cons_later p (drop from positions) x (moved.exactly.all x (inl b, d))
          by (inr b) = subst (Contains (p ∷ drop from positions)) (sym b) (cons_first p (drop from positions))
      all x (inr a, d) = cons_later p (drop from positions) x (moved.exactly.all x (inr a, d))

  -- From one position more they don't.
  pub moved_same : (before : List ℕ) (j n m from p : ℕ) (positions : List ℕ) (found : Option ℕ) → n ≡ m + 1 → m < length before → IsStrictlyIncreasing before
      → ((x : ℕ) → Contains before x → x < j) → IsClosedBefore N K s j before → MovesOn N K s → j ≤ length K →
      AreMoved before j n from positions → p ≡ get_or positions m 0 → IsLastAmong (DerivesSpan N K s p) (drop from positions) found → found ≡ None
      → AreMoved before j m from positions
  moved_same before j n m from p positions found en l rising below closed moves w moved at is-last is = record {
    ordered = omega (arith, moved.ordered, en);
    within = moved.within;
    length_is = moved.length_is;
    earlier = λ k a. moved.earlier k (omega (arith, a, en));
    exactly = record { rising = moved.exactly.rising; only = only; all = all };
  }
    where
      p_is : p ≡ get_or before m 0
      p_is = at ∙ moved.earlier m (omega (arith, en))

      has_p : Contains before p
      has_p = subst (Contains before) (sym p_is) (Contains-get_or before m 0 l)

      split : drop m before ≡ p ∷ drop n before
      split = drop_more before m 0 l ∙ ap (λ (x : ℕ). x ∷ drop (m + 1) before) (sym p_is) ∙ ap (λ (k : ℕ). p ∷ drop k before) (sym en)

      none : (x : ℕ) → Contains (drop from positions) x → DerivesSpan N K s p x → ⊥
      none = subst (IsLastAmong (DerivesSpan N K s p) (drop from positions)) is is-last

      stops : DerivesSpanMany N K s p j → ⊥
      stops d = by (((spans N K).many s p j).0 d)
        where
          at_end : (q : ℕ) → DerivesSpan N K s p q → DerivesSpanMany N K s q j → (q < j) ⊎ (j ≤ q) → ⊥
          at_end q one rest (inl a) =
              let has = closed p q has_p one a in
              let after = greater_is_later before m q rising l has (omega (arith, p_is, moves p q one)) in
              none q (moved.exactly.all q (inl (subst (λ (k : ℕ). Contains (drop k before) q) (sym en) after), rest)) one
          at_end q one rest (inr a) = none q (moved.exactly.all q (inr (omega (arith, a, (many_within q j rest).0)), rest)) one

          by : ((p ≡ j) × (j ≤ length K)) ⊎ ((q : ℕ) × DerivesSpan N K s p q × DerivesSpanMany N K s q j) → ⊥
          by (inl a) = omega (arith, a.0, below p has_p)
          by (inr (q, one, rest)) = at_end q one rest (cases_lt q j)

      only : (x : ℕ) → Contains (drop from positions) x → ElementsGoOn N K s j (drop m before) x
      only x c = let g = moved.exactly.only x c in (wider g.0, g.1)
        where
          wider : Contains (drop n before) x ⊎ (x ≡ j) → Contains (drop m before) x ⊎ (x ≡ j)
          wider (inl a) = inl (subst (λ (l : List ℕ). Contains l x) (sym split) (cons_later p (drop n before) x a))
          wider (inr a) = inr a

      all : (x : ℕ) → ElementsGoOn N K s j (drop m before) x → Contains (drop from positions) x
      all x (inl a, d) = by (in_cons p (drop n before) x (subst (λ (l : List ℕ). Contains l x) split a))
        where
          by : Contains (drop n before) x ⊎ (x ≡ p) → Contains (drop from positions) x
          by (inl b) = moved.exactly.all x (inl b, d)
          by (inr b) = absurd (stops (subst (λ (y : ℕ). DerivesSpanMany N K s y j) b d))
      all x (inr a, d) = moved.exactly.all x (inr a, d)

  module _ (list : Sym) (i j : ℕ) (is_list : IsListOf N K list s i) (lt : i < j) (positions : List ℕ)
      (grown : IsGrown (EndsUpTo N K list i (j - 1)) [] positions) (all : HasAll (EndsUpTo N K list i (j - 1)) positions) where
    end_of : (x : ℕ) → Contains positions x → EndsUpTo N K list i (j - 1) x
    end_of x c = elim (grown.only x c) [ inl a ↦ absurd (contains_none x a) | inr a ↦ a ]

    -- The ends of the list before j are before j, and elements lead from them to others.
    pub ends_before : (x : ℕ) → Contains positions x → x < j
    ends_before x c = omega (arith, lt, (end_of x c).1)

    pub ends_closed : MovesOn N K s → IsClosedBefore N K s j positions
    ends_closed moves p q c d before =
        let from = end_of p c in
        let reached : DerivesSpanMany N K s i p = by from.0 (cases_lt i p) in
        let rises = from.0.rises in
        all q ((is_list q (omega (arith, rises, moves p q d))).1 ((joins N K).one_more s i p q reached d), omega (arith, before))
      where
        by : DerivesSpan N K list i p → (i < p) ⊎ (p ≤ i) → DerivesSpanMany N K s i p
        by e (inl a) = (is_list p a).0 e
        by e (inr a) = let same : i ≡ p =
            omega (arith, a, e.rises) in subst (DerivesSpanMany N K s i) same (DerivesSpanMany.of_end i (omega (arith, same, e.within)))

    pub ends_of_elements : (ends : List ℕ) → HasExactly (ElementsGoOn N K s j positions) ends → HasEndsOfElements N K s i j ends
    ends_of_elements ends h = record { rising = h.rising; only = λ x c. (h.only x c).1; all = every }
      where
        every : (x : ℕ) → i < x → DerivesSpanMany N K s i x → DerivesSpanMany N K s x j → Contains ends x
        every x a d rest =
            h.all x
            (elim (cases_lt x j) [ inl b ↦ inl (all x ((is_list x a).1 d, omega (arith, b))) | inr b ↦ inr (omega (arith, b, (many_within x j rest).0)) ], rest)

  -- Where the first elements are cut off: the position p.
  pub record IsCutAt (i j p : ℕ) (parts : List Part) : Type 0 where
    pub reached : DerivesSpanMany N K s i p
    pub goes_on : DerivesSpanMany N K s p j
    pub parts_are : (more : List Part) → AreElements N K s p j more → AreElements N K s i j (parts ++ more)

  pub cut_begins : (i j : ℕ) (parts : List Part) → parts ≡ [] → DerivesSpanMany N K s i j → IsCutAt i j i parts
  cut_begins i j parts e d = record {
    reached = DerivesSpanMany.of_end i (omega (arith, many_within i j d));
    goes_on = d;
    parts_are = λ more are. subst (λ (ps : List Part). AreElements N K s i j (ps ++ more)) (sym e) are;
  }

  pub cut_more : (i j p e : ℕ) (ends : List ℕ) (parts : List Part) (found : Option ℕ) (part : Part) → p < j → HasEndsOfElements N K s i j ends → MovesOn N K s
      → IsCutAt i j p parts → IsLastAmong (DerivesSpan N K s p) ends found → found ≡ Some e →
      part.slot ≡ s → part.first ≡ p → part.end ≡ e → IsCutAt i j e (parts ++ part ∷ [])
  cut_more i j p e ends parts found part lt h moves cut last is slot first end = record {
    reached = (joins N K).one_more s i p e cut.reached greatest.holds;
    goes_on = h.only e greatest.has;
    parts_are = λ more are. subst (λ (ps : List Part). AreElements N K s i j ps) (sym (append_assoc parts (part ∷ []) more))
        (cut.parts_are (part ∷ more) (lt, is_part, subst (λ (m : ℕ). AreElements N K s m j more) (sym end) are));
  }
    where
      greatest : IsGreatest (DerivesSpan N K s p) ends e
      greatest = subst (IsLastAmong (DerivesSpan N K s p) ends) is last

      longest : IsLongest N K s p e (λ x. DerivesSpanMany N K s x j)
      longest x above d rest =
          let has = h.all x (omega (arith, (many_within i p cut.reached).0, moves p x d)) ((joins N K).one_more s i p x cut.reached d) rest in
          omega (arith, above, greatest.greatest x has d)

      is_part : IsPart N K s p (λ x. DerivesSpanMany N K s x j) part
      is_part = record {
        slot = slot;
        first = first;
        derived = subst (DerivesSpan N K s p) (sym end) greatest.holds;
        longest = subst (λ (m : ℕ). IsLongest N K s p m (λ x. DerivesSpanMany N K s x j)) (sym end) longest;
      }

  -- From each position before the end another element goes on.
  pub always_more : (i j p : ℕ) (ends : List ℕ) (parts : List Part) (found : Option ℕ) → p < j → HasEndsOfElements N K s i j ends → MovesOn N K s
      → IsCutAt i j p parts → IsLastAmong (DerivesSpan N K s p) ends found → found ≡ None → ⊥
  always_more i j p ends parts found lt h moves cut last is = by (((spans N K).many s p j).0 cut.goes_on)
    where
      none : (x : ℕ) → Contains ends x → DerivesSpan N K s p x → ⊥
      none = subst (IsLastAmong (DerivesSpan N K s p) ends) is last

      by : ((p ≡ j) × (j ≤ length K)) ⊎ ((q : ℕ) × DerivesSpan N K s p q × DerivesSpanMany N K s q j) → ⊥
      by (inl a) = omega (arith, a.0, lt)
      by (inr (q, one, rest)) =
          none q (h.all q (omega (arith, (many_within i p cut.reached).0, moves p q one)) ((joins N K).one_more s i p q cut.reached one) rest) one

  pub cut_done : (i j p : ℕ) (parts : List Part) → j ≤ p → IsCutAt i j p parts → AreElements N K s i j parts
  cut_done i j p parts le cut =
      let w = many_within p j cut.goes_on in
      subst (λ (ps : List Part). AreElements N K s i j ps) (append-nil parts) (cut.parts_are [] (omega (arith, w.0, le), omega (arith, w.0, w.1)))

  -- A list of one element.
  pub one_element : (i j : ℕ) (part : Part) (parts : List Part) → i < j → DerivesSpan N K s i j → part.slot ≡ s → part.first ≡ i → part.end ≡ j
      → parts ≡ part ∷ [] → AreElements N K s i j parts
  one_element i j part parts lt d slot first end e = subst (AreElements N K s i j) (sym e) (lt, is_part, (end, omega (arith, end, d.within)))
    where
      longest : IsLongest N K s i j (λ x. DerivesSpanMany N K s x j)
      longest x above one rest = omega (arith, above, (many_within x j rest).0)

      is_part : IsPart N K s i (λ x. DerivesSpanMany N K s x j) part
      is_part = record {
        slot = slot;
        first = first;
        derived = subst (DerivesSpan N K s i) (sym end) d;
        longest = subst (λ (m : ℕ). IsLongest N K s i m (λ x. DerivesSpanMany N K s x j)) (sym end) longest;
      }

  pub moves_to_last : (p e : ℕ) (ends : List ℕ) (found : Option ℕ) → MovesOn N K s → IsLastAmong (DerivesSpan N K s p) ends found → found ≡ Some e → p < e
  moves_to_last p e ends found moves last is = moves p e (subst (IsLastAmong (DerivesSpan N K s p) ends) is last).holds

  pub one_element_after : (i j : ℕ) (part : Part) (old parts : List Part) → i < j → DerivesSpan N K s i j → part.slot ≡ s → part.first ≡ i → part.end ≡ j
      → old ≡ [] → parts ≡ old ++ part ∷ [] → AreElements N K s i j parts
  one_element_after i j part old parts lt d slot first end none e =
      one_element i j part parts lt d slot first end (e ∙ ap (λ (l : List Part). l ++ part ∷ []) none)

  pub no_elements : (i j : ℕ) (parts : List Part) → parts ≡ [] → i ≡ j → DerivesSpanMany N K s i j → AreElements N K s i j parts
  no_elements i j parts none e d = subst (AreElements N K s i j) (sym none) (e, omega (arith, e, (many_within i j d).1))

  pub begins_before : (i j : ℕ) → DerivesSpanMany N K s i j → (i ≡ j → ⊥) → i < j
  begins_before i j d ne = elim (cases_lt i j) [ inl a ↦ a | inr a ↦ absurd (ne (omega (arith, a, (many_within i j d).0))) ]

  pub within_kinds : (i j : ℕ) → DerivesSpanMany N K s i j → j ≤ length K
  within_kinds i j d = (many_within i j d).1
