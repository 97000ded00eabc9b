-- Parts that are known without lists of positions.
use Rattle.std.proofs.Common.{◌≡◌, ℕ, ◌+◌, ◌<◌, ◌≤◌, inl, inr, Bool, true, false, List, [], ◌∷◌, ◌++◌, length, length-append}
use Rattle.std.proofs.Common.{get_or, drop, refl, sym, ap, ◌∙◌, subst, arith, append_assoc}
use Rattle.std.proofs.lemmas.Grind.{get_or_default_zero}
use Rattle.std.proofs.lemmas.List.{drop_more, get_or_append_left, get_or_push}
use Rattle.std.proofs.lemmas.List.Kept.{AllPairs-from_increasing}
use Rattle.std.proofs.lemmas.List.Elements.{Contains-append_left, Contains-push, Contains-push_cases}
use Rattle.std.specs.List.{Contains}
use Rattle.std.specs.List.Sorted.{IsStrictlyIncreasing}
use Rattle.normal_form.specs.declared.normal.Sym.{Sym}
use Rattle.normal_form.specs.Form.{NormalForm}
use Rattle.normal_form.specs.Spans.{DerivesSpan, DerivesSpanSeq}
use Rattle.syntax_tree.specs.Preferred.{IsLongest}
use Rattle.chart_parser_ends.specs.Input.{ChartInput}
use Rattle.chart_parser_ends.specs.Positions.{EndsUpTo, HasAll, IsGrown}
use Rattle.chart_parser_ends.proofs.Lent.{joins, spans}
use Rattle.chart_parser.specs.declared.part.Part.{Part}
use Rattle.chart_parser.specs.inner.Parts.{AreEndsLeft, AreParts, IsKnownTo, IsPart}
use Rattle.chart_parser.proofs.Cutting.{contains_one, seq_within}

-- the positions before the last one rise
rises_before : (xs : List ℕ) (e : ℕ) → IsStrictlyIncreasing (xs ++ e ∷ []) → IsStrictlyIncreasing xs
rises_before xs e rising k l =
    let len = length-append xs (e ∷ []) in
    omega (
      arith,
      rising k (omega (arith, l, len)),
      get_or_append_left xs (e ∷ []) 0 k (omega (arith, l)),
      get_or_append_left xs (e ∷ []) 0 (k + 1) l,
    )

-- the last position is greater than those before it
last_above : (xs : List ℕ) (e x : ℕ) → IsStrictlyIncreasing (xs ++ e ∷ []) → Contains xs x → x < e
last_above xs e x rising (k, l, h) =
    let len = length-append xs (e ∷ []) in
    let order = AllPairs-from_increasing (xs ++ e ∷ []) rising k (length xs) 0 l (omega (arith, len)) in
    let here = get_or_append_left xs (e ∷ []) 0 k l in
    let own = sym (get_or_default_zero xs k x l) ∙ h in
    omega (arith, order, here, own, get_or_push xs e 0 (length xs) refl)

module _ (N : NormalForm) (K : List ℕ) where
  -- Of no symbol the part is known.
  pub none_known : (ss : List Sym) (i j : ℕ) (parts : List Part) → parts ≡ [] → i ≤ length K → IsKnownTo N K ss i j 0 i parts
  none_known ss i j parts e w = record {
    count = omega arith;
    within = w;
    only = λ d. d;
    parts_are = λ more are. subst (λ (ps : List Part). AreParts N K ss i j (ps ++ more)) (sym e) are;
  }

  split_here : (ss : List Sym) (n : ℕ) (s : Sym) → n < length ss → get_or ss n s ≡ s → drop n ss ≡ s ∷ drop (n + 1) ss
  split_here ss n s l e = drop_more ss n s l ∙ ap (λ (x : Sym). x ∷ drop (n + 1) ss) e

  -- The symbol can end at one position alone, up to the end: so its part is known.
  pub one_more_known : (ss : List Sym) (i j n p e : ℕ) (s : Sym) (old new : List ℕ) (parts : List Part) (part : Part) → n < length ss → get_or ss n s ≡ s
      → IsKnownTo N K ss i j n p parts → old ≡ [] → new ≡ e ∷ [] → IsGrown (EndsUpTo N K s p j) old new → HasAll (EndsUpTo N K s p j) new
      → part.slot ≡ s → part.first ≡ p → part.end ≡ e → IsKnownTo N K ss i j (n + 1) e (parts ++ part ∷ [])
  one_more_known ss i j n p e s old new parts part l read known none one grown all slot first end = record {
    count = omega (arith, l);
    within = here.within;
    only = λ d. only (known.only d);
    parts_are = λ more are. subst (λ (ps : List Part). AreParts N K ss i j ps) (sym (append_assoc parts (part ∷ []) more))
        (known.parts_are (part ∷ more) (with_part more are));
  }
    where
      split : drop n ss ≡ s ∷ drop (n + 1) ss
      split = split_here ss n s l read

      here : DerivesSpan N K s p e
      here = elim (grown.only e (subst (λ (x : List ℕ). Contains x e) (sym one) (0, omega arith, refl))) [
        | inl (k, m, f) ↦ absurd (omega (arith, m, ap length none))
        | inr h ↦ h.0
      ]

      unique : (x : ℕ) → DerivesSpan N K s p x → x ≤ j → x ≡ e
      unique x d w = contains_one e x (subst (λ (y : List ℕ). Contains y x) one (all x (d, w)))

      only : DerivesSpanSeq N K (drop n ss) p j → DerivesSpanSeq N K (drop (n + 1) ss) e j
      only d =
          let (m, front, rest) = ((spans N K).next s (drop (n + 1) ss) p j).0 (subst (λ (x : List Sym). DerivesSpanSeq N K x p j) split d) in
          subst (λ (x : ℕ). DerivesSpanSeq N K (drop (n + 1) ss) x j) (unique m front (seq_within N K (drop (n + 1) ss) m j rest).0) rest

      longest : IsLongest N K s p e (λ x. DerivesSpanSeq N K (drop (n + 1) ss) x j)
      longest x lt d rest = omega (arith, lt, unique x d (seq_within N K (drop (n + 1) ss) x j rest).0)

      is_part : IsPart N K s p (λ x. DerivesSpanSeq N K (drop (n + 1) ss) x j) part
      is_part = record {
        slot = slot;
        first = first;
        derived = subst (DerivesSpan N K s p) (sym end) here;
        longest = subst (λ (m : ℕ). IsLongest N K s p m (λ x. DerivesSpanSeq N K (drop (n + 1) ss) x j)) (sym end) longest;
      }

      with_part : (more : List Part) → AreParts N K (drop (n + 1) ss) e j more → AreParts N K (drop n ss) p j (part ∷ more)
      with_part more are =
          subst (λ (x : List Sym). AreParts N K x p j (part ∷ more)) (sym split)
          (is_part, subst (λ (m : ℕ). AreParts N K (drop (n + 1) ss) m j more) (sym end) are)

  -- Where the symbol can't end, the symbols don't derive the span.
  pub none_ends : (ss : List Sym) (i j n p : ℕ) (s : Sym) (new : List ℕ) (parts : List Part) → n < length ss → get_or ss n s ≡ s
      → IsKnownTo N K ss i j n p parts → new ≡ [] → HasAll (EndsUpTo N K s p j) new → DerivesSpanSeq N K ss i j → ⊥
  none_ends ss i j n p s new parts l read known none all whole =
      let d = subst (λ (x : List Sym). DerivesSpanSeq N K x p j) (split_here ss n s l read) (known.only whole) in
      let (m, front, rest) = ((spans N K).next s (drop (n + 1) ss) p j).0 d in
      let (k, lt, e) = all m (front, (seq_within N K (drop (n + 1) ss) m j rest).0) in
      omega (arith, lt, ap length none)

  -- The part of one symbol.
  pub last_part : (s : Sym) (i j : ℕ) (part : Part) → part.slot ≡ s → part.first ≡ i → part.end ≡ j → DerivesSpan N K s i j
      → AreParts N K (s ∷ []) i j (part ∷ [])
  last_part s i j part slot first end d = (is_part, (end, omega (arith, end, d.within)))
    where
      longest : IsLongest N K s i j (λ x. DerivesSpanSeq N K [] x j)
      longest x lt h rest = omega (arith, lt, (((spans N K).done x j).0 rest).0)

      is_part : IsPart N K s i (λ x. DerivesSpanSeq N K [] x j) part
      is_part = record {
        slot = slot;
        first = first;
        derived = subst (DerivesSpan N K s i) (sym end) d;
        longest = subst (λ (m : ℕ). IsLongest N K s i m (λ x. DerivesSpanSeq N K [] x j)) (sym end) longest;
      }

  -- The parts of two symbols, of which the first one can't end later so that the last one goes on.
  pub two_parts : (s t : Sym) (i m j : ℕ) (part last : Part) → part.slot ≡ s → part.first ≡ i → part.end ≡ m → last.slot ≡ t → last.first ≡ m → last.end ≡ j
      → DerivesSpan N K s i m → DerivesSpan N K t m j → ((x : ℕ) → m < x → DerivesSpan N K s i x → DerivesSpan N K t x j → ⊥)
      → AreParts N K (s ∷ t ∷ []) i j (part ∷ last ∷ [])
  two_parts s t i m j part last slot first end last_slot last_first last_end d h later =
      (is_part, subst (λ (x : ℕ). AreParts N K (t ∷ []) x j (last ∷ [])) (sym end) (last_part t m j last last_slot last_first last_end h))
    where
      longest : IsLongest N K s i m (λ x. DerivesSpanSeq N K (t ∷ []) x j)
      longest x lt front rest = later x lt front (((joins N K).one t x j).0 rest)

      is_part : IsPart N K s i (λ x. DerivesSpanSeq N K (t ∷ []) x j) part
      is_part = record {
        slot = slot;
        first = first;
        derived = subst (DerivesSpan N K s i) (sym end) d;
        longest = subst (λ (y : ℕ). IsLongest N K s i y (λ x. DerivesSpanSeq N K (t ∷ []) x j)) (sym end) longest;
      }

  -- Two symbols derive the span where the first one ends and the last one goes on.
  pub two_derive : (s t : Sym) (i j : ℕ) → DerivesSpanSeq N K (s ∷ t ∷ []) i j → (m : ℕ) × DerivesSpan N K s i m × DerivesSpan N K t m j × (m ≤ j)
  two_derive s t i j d =
      let (m, front, rest) = ((spans N K).next s (t ∷ []) i j).0 d in
      let last = ((joins N K).one t m j).0 rest in
      (m, front, last, last.rises)

  -- At first all ends are left.
  pub all_ends : (s t : Sym) (i j : ℕ) (old new : List ℕ) → old ≡ [] → IsStrictlyIncreasing new → IsGrown (EndsUpTo N K s i j) old new
      → HasAll (EndsUpTo N K s i j) new → AreEndsLeft N K s t i j new
  all_ends s t i j old new none rising grown all = record {
    rising = rising;
    only = λ x c. elim (grown.only x c) [ inl (k, m, f) ↦ absurd (omega (arith, m, ap length none)) | inr h ↦ h.0 ];
    all = λ x d h. all x (d, h.rises);
  }

  -- the last one of the ends is the greatest
  below_last : (xs : List ℕ) (e x : ℕ) → IsStrictlyIncreasing (xs ++ e ∷ []) → Contains (xs ++ e ∷ []) x → x ≤ e
  below_last xs e x rising c = elim (Contains-push_cases xs e x c) [
    | inl a ↦ (let lt = last_above xs e x rising a in omega (arith, lt))
    | inr a ↦ omega (arith, a)
  ]

  -- From the last one of the ends the second symbol doesn't go on: so the others are left.
  pub fewer_ends : (s t : Sym) (i j e : ℕ) (ends rest : List ℕ) → ends ≡ rest ++ e ∷ [] → AreEndsLeft N K s t i j ends → (DerivesSpan N K t e j → ⊥)
      → AreEndsLeft N K s t i j rest
  fewer_ends s t i j e ends rest is left not = record {
    rising = rises_before rest e (subst IsStrictlyIncreasing is left.rising);
    only = λ x c. left.only x (subst (λ (l : List ℕ). Contains l x) (sym is) (Contains-append_left rest (e ∷ []) x c));
    all = λ x d h. elim (Contains-push_cases rest e x (subst (λ (l : List ℕ). Contains l x) is (left.all x d h))) [
      | inl a ↦ a
      | inr a ↦ absurd (not (subst (λ (y : ℕ). DerivesSpan N K t y j) (sym a) h))
    ];
  }

  -- It goes on from the last one of the ends: these are the parts.
  pub two_at_last : (s t : Sym) (i j e : ℕ) (ends rest : List ℕ) (part last : Part) → ends ≡ rest ++ e ∷ [] → AreEndsLeft N K s t i j ends
      → DerivesSpan N K t e j → part.slot ≡ s → part.first ≡ i → part.end ≡ e → last.slot ≡ t → last.first ≡ e → last.end ≡ j
      → AreParts N K (s ∷ t ∷ []) i j (part ∷ last ∷ [])
  two_at_last s t i j e ends rest part last is left h slot first end last_slot last_first last_end =
      two_parts s t i e j part last slot first end last_slot last_first last_end
      (left.only e (subst (λ (l : List ℕ). Contains l e) (sym is) (Contains-push rest e))) h
      (λ x lt d on. (let most = below_last rest e x (subst IsStrictlyIncreasing is left.rising)
      (subst (λ (l : List ℕ). Contains l x) is (left.all x d on)) in omega (arith, lt, most)))

  -- No end is left: the two don't derive the span.
  pub no_ends : (s t : Sym) (i j : ℕ) (ends : List ℕ) → length ends ≡ 0 → AreEndsLeft N K s t i j ends → DerivesSpanSeq N K (s ∷ t ∷ []) i j → ⊥
  no_ends s t i j ends none left d =
      let (m, front, last, up) = two_derive s t i j d in
      let (k, lt, e) = left.all m front last in
      omega (arith, lt, none)

single : (l : List ℕ) → length l ≡ 1 → l ≡ get_or l 0 0 ∷ []
single [] e = absurd (omega (arith, e))
single (x ∷ []) e = refl
single (x ∷ y ∷ l) e = absurd (omega (arith, e))

nothing : (l : List ℕ) → length l ≡ 0 → l ≡ []
nothing [] e = refl
nothing (x ∷ l) e = absurd (omega (arith, e))

-- The same where the chart is still the one that there was at first.
pub known_step : (now start : ChartInput) (ss : List Sym) (i j n p : ℕ) (s : Sym) (old new ends : List ℕ) (parts after : List Part) (part : Part) → now ≡ start
    → n < length ss → get_or ss n s ≡ s → IsKnownTo start.normal start.kinds ss i j n p parts → old ≡ [] → ends ≡ new → length ends ≡ 1
    → IsGrown (EndsUpTo now.normal now.kinds s p j) old new → HasAll (EndsUpTo now.normal now.kinds s p j) new → part.slot ≡ s → part.first ≡ p
    → part.end ≡ get_or ends 0 0 → after ≡ parts ++ part ∷ [] → IsKnownTo start.normal start.kinds ss i j (n + 1) (get_or ends 0 0) after
known_step now start ss i j n p s old new ends parts after part same l read known none are one grown all slot first end pushed =
    let N = start.normal in
    let K = start.kinds in
    let grown' = subst (λ (x : ChartInput). IsGrown (EndsUpTo x.normal x.kinds s p j) old new) same grown in
    let all' = subst (λ (x : ChartInput). HasAll (EndsUpTo x.normal x.kinds s p j) new) same all in
    subst (λ (ps : List Part). IsKnownTo N K ss i j (n + 1) (get_or ends 0 0) ps) (sym pushed)
    (one_more_known N K ss i j n p (get_or ends 0 0) s old new parts part l read known none (sym are ∙ single ends one) grown' all' slot first end)

pub none_ends_step : (now start : ChartInput) (ss : List Sym) (i j n p : ℕ) (s : Sym) (new ends : List ℕ) (parts : List Part) → now ≡ start → n < length ss
    → get_or ss n s ≡ s → IsKnownTo start.normal start.kinds ss i j n p parts → ends ≡ new → length ends ≡ 0
    → HasAll (EndsUpTo now.normal now.kinds s p j) new → DerivesSpanSeq start.normal start.kinds ss i j → ⊥
none_ends_step now start ss i j n p s new ends parts same l read known are none all whole =
    none_ends start.normal start.kinds ss i j n p s new parts l read known (sym are ∙ nothing ends none)
    (subst (λ (x : ChartInput). HasAll (EndsUpTo x.normal x.kinds s p j) new) same all) whole

-- what a test that failed says
pub not_true : (b : Bool) → b ≡ false → b ≡ true → ⊥
not_true b f t = absurd (cc)
