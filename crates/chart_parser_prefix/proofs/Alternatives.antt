-- What the forms of rules predict.
use Rattle.std.proofs.Common.{◌≡◌, ◌⊎◌, inl, inr, ℕ, zero, suc, ◌+◌, ◌<◌, ◌≤◌, List, [], ◌∷◌, ◌++◌, length, take, drop}
use Rattle.std.proofs.Common.{get_or, Some, None, slice_get, refl, sym, ap, ◌∙◌, subst, arith}
use Rattle.std.proofs.lemmas.List.{drop_more, take-append-drop, take_more}
use Rattle.std.proofs.lemmas.Option.{none-some}
use Rattle.std.specs.Global.{Vec}
use Rattle.std.specs.List.{Contains}
use Rattle.std.specs.List.Sorted.{IsStrictlyIncreasing}
use Rattle.normal_form.specs.declared.normal.Sym.{Sym}
use Rattle.normal_form.specs.declared.normal.Sym.TheVariants.{Rule}
use Rattle.normal_form.specs.Form.{RuleForm, NormalForm}
use Rattle.normal_form.specs.View.{alts_form}
use Rattle.normal_form.specs.Spans.{DerivesSpan, DerivesSpanSeq, DerivesSpanMany}
use Rattle.chart_parser_ends.specs.Positions.{EndsUpTo, HasAll, HasExactly, IsGrown}
use Rattle.chart_parser_ends.specs.inner.Working.{DerivesFrom}
use Rattle.chart_parser_ends.proofs.Lent.{contains_none, contains_one, exactly_none, exactly_one, exactly_same, next_position, joins, lists, spans}
use Rattle.chart_parser_prefix.specs.inner.Expected.{IsElement, IsInAlternative, IsInAlternatives, IsInProductive, Predicts}
use Rattle.chart_parser_prefix.specs.inner.Expected.{of_alternative, of_optional, of_star, of_plus}
use Rattle.chart_parser_prefix.specs.inner.Productive.{DerivesSomeSeq}
use Rattle.chart_parser_prefix.specs.inner.Walk.{Expects, ExpectsAll, IsAtOneOf, IsGrownBy}
use Rattle.chart_parser_prefix.proofs.Cons.{first_same, no_list, rest_same}
use Rattle.chart_parser_prefix.proofs.Growing.{grown_then, grown_weaker, kept, taken_cases}

module _ (N : NormalForm) (K : List ℕ) where
  -- The alternative makes the symbol come next, after fewer than n symbols.
  abbrev pub IsEarlyIn : List Sym → ℕ → ℕ → Sym → ℕ → Type 0
  IsEarlyIn alt n i s m = (before : List Sym) × (after : List Sym) × (alt ≡ before ++ s ∷ after) × (length before < n) × DerivesSpanSeq N K before i m

  pub none_early : (alt : List Sym) (i : ℕ) (lists : List (Vec Sym)) → ExpectsAll (IsEarlyIn alt 0 i) lists
  none_early alt i lists s m (before, after, e, l, span) = absurd (omega (arith, l))

  pub begun : (alt : List Sym) (first : ℕ) → first ≤ length K → HasExactly (DerivesSpanSeq N K (take 0 alt) first) (first ∷ [])
  begun alt first l = exactly_one (DerivesSpanSeq N K [] first) first (DerivesSpanSeq.of_done first l) (λ x d. sym (((spans N K).done first x).0 d).0)

  -- the positions where the first symbols end, and the next one after them
  pub next_reached : (alt : List Sym) (n first : ℕ) (d : Sym) (reached next : List ℕ) → n < length alt
      → HasExactly (DerivesSpanSeq N K (take n alt) first) reached → HasExactly (DerivesFrom N K (get_or alt n d) reached) next
      → HasExactly (DerivesSpanSeq N K (take (n + 1) alt) first) next
  next_reached alt n first d reached next l h f = exactly_same (DerivesFrom N K s reached) (DerivesSpanSeq N K (take (n + 1) alt) first) next to back f
    where
      s : Sym
      s = get_or alt n d

      more : take (n + 1) alt ≡ take n alt ++ s ∷ []
      more = take_more alt n d l

      to : (j : ℕ) → DerivesFrom N K s reached j → DerivesSpanSeq N K (take (n + 1) alt) first j
      to j (p, c, one) =
          subst (λ ss. DerivesSpanSeq N K ss first j) (sym more)
          (((joins N K).append (take n alt) (s ∷ []) first j).1 (p, h.only p c, ((joins N K).one s p j).1 one))

      back : (j : ℕ) → DerivesSpanSeq N K (take (n + 1) alt) first j → DerivesFrom N K s reached j
      back j x =
          let (p, front, last) = ((joins N K).append (take n alt) (s ∷ []) first j).0 (subst (λ ss. DerivesSpanSeq N K ss first j) more x) in
          (p, h.all p front, ((joins N K).one s p j).0 last)

  same_before : (before after : List Sym) (s : Sym) (alt : List Sym) (n : ℕ) (d : Sym) → alt ≡ before ++ s ∷ after → length before ≡ n → (before ≡ take n alt)
      × (s ≡ get_or alt n d)
  same_before [] after s [] n d e l = absurd (no_list s after e)
  same_before [] after s (x ∷ alt) zero d e l = (refl, sym (first_same x s alt after e))
  same_before [] after s (x ∷ alt) (suc n) d e l = absurd (omega (arith, l))
  same_before (b ∷ before) after s [] n d e l = absurd (no_list b (before ++ s ∷ after) e)
  same_before (b ∷ before) after s (x ∷ alt) zero d e l = absurd (omega (arith, l))
  same_before (b ∷ before) after s (x ∷ alt) (suc n) d e l =
      let same : x ≡ b = first_same x b alt (before ++ s ∷ after) e in
      let rest : alt ≡ before ++ s ∷ after = rest_same x b alt (before ++ s ∷ after) e in
      let both = same_before before after s alt n d rest (omega (arith, l)) in
      (ap (λ y. y ∷ before) (sym same) ∙ ap (λ ys. x ∷ ys) both.0, both.1)

  parted : (alt : List Sym) (n : ℕ) (d : Sym) → n < length alt → alt ≡ take n alt ++ get_or alt n d ∷ drop (n + 1) alt
  parted alt n d l = sym (take-append-drop n alt) ∙ ap (λ rest. take n alt ++ rest) (drop_more alt n d l)

  less_or_same : (k n : ℕ) → k < n + 1 → (k < n) ⊎ (k ≡ n)
  less_or_same k n l = grind (arith, l)

  -- One more symbol of the alternative was added, at each position where those before it end.
  pub alternative_more : (alt : List Sym) (n first : ℕ) (d : Sym) (reached : List ℕ) (old mid new : List (Vec Sym)) → n < length alt
      → HasExactly (DerivesSpanSeq N K (take n alt) first) reached →
      IsGrownBy (IsInAlternative N K alt first) old mid → ExpectsAll (IsEarlyIn alt n first) mid → IsGrownBy (IsAtOneOf (get_or alt n d) reached) mid new
      → ExpectsAll (IsAtOneOf (get_or alt n d) reached) new →
      IsGrownBy (IsInAlternative N K alt first) old new × ExpectsAll (IsEarlyIn alt (n + 1) first) new
  alternative_more alt n first d reached old mid new l h before has grown all =
      (grown_then before (grown_weaker added grown), λ s m (front, back, e, k, span). by s m front back e span (less_or_same (length front) n k))
    where
      added : (s : Sym) (m : ℕ) → IsAtOneOf (get_or alt n d) reached s m → IsInAlternative N K alt first s m
      added s m (e, c) = (take n alt, drop (n + 1) alt, parted alt n d l ∙ ap (λ x. take n alt ++ x ∷ drop (n + 1) alt) (sym e), h.only m c)

      by : (s : Sym) (m : ℕ) (front back : List Sym) → alt ≡ front ++ s ∷ back → DerivesSpanSeq N K front first m → (length front < n) ⊎ (length front ≡ n)
          → Expects new s m
      by s m front back e span (inl k) = kept grown s m (has s m (front, back, e, k, span))
      by s m front back e span (inr same) =
          let (f, g) = same_before front back s alt n d e same in
          all s m (g, h.all m (subst (λ x. DerivesSpanSeq N K x first m) f span))

  shorter : (xs : List Sym) (s : Sym) (back : List Sym) → length xs < length (xs ++ s ∷ back)
  shorter [] s back = omega arith
  shorter (x ∷ xs) s back = omega (arith, shorter xs s back)

  pub alternative_all : (alt : List Sym) (n first : ℕ) (new : List (Vec Sym)) → length alt ≤ n → ExpectsAll (IsEarlyIn alt n first) new
      → ExpectsAll (IsInAlternative N K alt first) new
  alternative_all alt n first new l has s m (front, back, e, span) = has s m (front, back, e, omega (arith, l, shorter front s back, ap length e), span)

  abbrev pub Repeats : ℕ → Sym → Type 0
  Repeats r s = (slice_get N.rules r ≡ Some (RuleForm.star s)) ⊎ (slice_get N.rules r ≡ Some (RuleForm.plus s))

  -- Where elements of a star or plus end: where it begins, and each end of the rule.
  module _ (r : ℕ) (s : Sym) (first last : ℕ) (old new : List ℕ) (repeats : Repeats r s) (l : first ≤ length K) (end : last ≡ length K)
      (none : old ≡ first ∷ []) (grown : IsGrown (EndsUpTo N K (Rule r) first last) old new) (all : HasAll (EndsUpTo N K (Rule r) first last) new) where
    begins : Contains old first
    begins = subst (λ x. Contains x first) (sym none) (0, omega arith, refl)

    many_of : (m : ℕ) → Repeats r s → DerivesSpan N K (Rule r) first m → DerivesSpanMany N K s first m
    many_of m (inl at) x = ((spans N K).star r first m s at).0 x
    many_of m (inr at) x = let (q, one, rest) = ((spans N K).plus r first m s at).0 x in DerivesSpanMany.of_more first q m one rest

    only : (m : ℕ) → Contains old m ⊎ EndsUpTo N K (Rule r) first last m → DerivesSpanMany N K s first m
    only m (inl c) =
        let same : m ≡ first = contains_one first m (subst (λ x. Contains x m) none c) in
        subst (DerivesSpanMany N K s first) (sym same) (DerivesSpanMany.of_end first l)
    only m (inr x) = many_of m repeats x.0

    from_rule : (m : ℕ) → DerivesSpan N K (Rule r) first m → Contains new m
    from_rule m x = all m (x, omega (arith, end, x.within))

    from_plus : (m : ℕ) → slice_get N.rules r ≡ Some (RuleForm.plus s) → ((first ≡ m) × (m ≤ length K))
        ⊎ ((q : ℕ) × DerivesSpan N K s first q × DerivesSpanMany N K s q m) → Contains new m
    from_plus m at (inl (same, le)) = subst (Contains new) same (grown.kept first begins)
    from_plus m at (inr once) = from_rule m (((spans N K).plus r first m s at).1 once)

    each : (m : ℕ) → Repeats r s → DerivesSpanMany N K s first m → Contains new m
    each m (inl at) many = from_rule m (((spans N K).star r first m s at).1 many)
    each m (inr at) many = from_plus m at (((spans N K).many s first m).0 many)

    pub element_at : (m : ℕ) → Contains new m → DerivesSpanMany N K s first m
    element_at m c = only m (grown.only m c)

    pub at_element : (m : ℕ) → DerivesSpanMany N K s first m → Contains new m
    at_element m many = each m repeats many

  same_alternatives : (a b : List (List Sym)) → Some (RuleForm.regular a) ≡ Some (RuleForm.regular b) → a ≡ b
  same_alternatives a b e = cc

  -- What a rule predicts, by its form.
  pub predicts_regular : (r i : ℕ) (alts : List (List Sym)) → slice_get N.rules r ≡ Some (RuleForm.regular alts) → (s : Sym) (m : ℕ)
      → Predicts N K (Rule r) i s m → IsInAlternatives N K alts i s m
  predicts_regular r i alts at s m (of_alternative r' i' alts' before s' after m' at' has some span) = (
    before ++ s' ∷ after,
    subst (λ x. Contains x (before ++ s' ∷ after)) (same_alternatives alts' alts (sym at' ∙ at)) has,
    (some, (before, after, refl, span)),
  )
  predicts_regular r i alts at s m (of_optional r' i' s' at') = absurd (cc)
  predicts_regular r i alts at s m (of_star r' i' s' m' at' span) = absurd (cc)
  predicts_regular r i alts at s m (of_plus r' i' s' m' at' span) = absurd (cc)

  pub regular_predicts : (r i : ℕ) (alts : List (List Sym)) → slice_get N.rules r ≡ Some (RuleForm.regular alts) → (s : Sym) (m : ℕ)
      → IsInAlternatives N K alts i s m → Predicts N K (Rule r) i s m
  regular_predicts r i alts at s m (alt, has, (some, (before, after, e, span))) =
      of_alternative r i alts before s after m at (subst (Contains alts) e has) (subst (DerivesSomeSeq N) e some) span

  pub predicts_optional : (r i : ℕ) (inner : Sym) → slice_get N.rules r ≡ Some (RuleForm.opt inner) → (s : Sym) (m : ℕ) → Predicts N K (Rule r) i s m
      → IsAtOneOf inner (i ∷ []) s m
  predicts_optional r i inner at s m (of_alternative r' i' alts' before s' after m' at' has some span) = absurd (cc)
  predicts_optional r i inner at s m (of_optional r' i' s' at') = let same : s' ≡ inner = cc in (same, (0, omega arith, refl))
  predicts_optional r i inner at s m (of_star r' i' s' m' at' span) = absurd (cc)
  predicts_optional r i inner at s m (of_plus r' i' s' m' at' span) = absurd (cc)

  pub optional_predicts : (r i : ℕ) (inner : Sym) → slice_get N.rules r ≡ Some (RuleForm.opt inner) → (s : Sym) (m : ℕ) → IsAtOneOf inner (i ∷ []) s m
      → Predicts N K (Rule r) i s m
  optional_predicts r i inner at s m (e, c) =
      let here : m ≡ i = contains_one i m c in
      subst (Predicts N K (Rule r) i s) (sym here) (subst (λ t. Predicts N K (Rule r) i t i) (sym e) (of_optional r i inner at))

  pub predicts_element : (r i : ℕ) (element : Sym) → Repeats r element → (s : Sym) (m : ℕ) → Predicts N K (Rule r) i s m → IsElement N K element i s m
  predicts_element r i element (inl at) s m (of_alternative r' i' alts' before s' after m' at' has some span) = absurd (cc)
  predicts_element r i element (inr at) s m (of_alternative r' i' alts' before s' after m' at' has some span) = absurd (cc)
  predicts_element r i element (inl at) s m (of_optional r' i' s' at') = absurd (cc)
  predicts_element r i element (inr at) s m (of_optional r' i' s' at') = absurd (cc)
  predicts_element r i element (inl at) s m (of_star r' i' s' m' at' span) = let same : s' ≡ element =
      cc in (same, subst (λ t. DerivesSpanMany N K t i m') same span)
  predicts_element r i element (inr at) s m (of_star r' i' s' m' at' span) = absurd (cc)
  predicts_element r i element (inl at) s m (of_plus r' i' s' m' at' span) = absurd (cc)
  predicts_element r i element (inr at) s m (of_plus r' i' s' m' at' span) = let same : s' ≡ element =
      cc in (same, subst (λ t. DerivesSpanMany N K t i m') same span)

  pub element_predicts : (r i : ℕ) (element : Sym) → Repeats r element → (s : Sym) (m : ℕ) → IsElement N K element i s m → Predicts N K (Rule r) i s m
  element_predicts r i element (inl at) s m (e, span) = subst (λ t. Predicts N K (Rule r) i t m) (sym e) (of_star r i element m at span)
  element_predicts r i element (inr at) s m (e, span) = subst (λ t. Predicts N K (Rule r) i t m) (sym e) (of_plus r i element m at span)

  -- Where there is no such rule, and of a symbol that is none, nothing is predicted.
  pub no_rule_predicts : (r i : ℕ) → slice_get N.rules r ≡ None → (s : Sym) (m : ℕ) → Predicts N K (Rule r) i s m → ⊥
  no_rule_predicts r i none s m (of_alternative r' i' alts' before s' after m' at' has some span) = none-some (RuleForm.regular alts') (sym none ∙ at')
  no_rule_predicts r i none s m (of_optional r' i' s' at') = none-some (RuleForm.opt s') (sym none ∙ at')
  no_rule_predicts r i none s m (of_star r' i' s' m' at' span) = none-some (RuleForm.star s') (sym none ∙ at')
  no_rule_predicts r i none s m (of_plus r' i' s' m' at' span) = none-some (RuleForm.plus s') (sym none ∙ at')

  pub other_predicts : {t : Sym} {i : ℕ} {s : Sym} {m : ℕ} → ((r : ℕ) → t ≡ Rule r → ⊥) → Predicts N K t i s m → ⊥
  other_predicts none (of_alternative r i alts before s after m at has some span) = none r refl
  other_predicts none (of_optional r i s at) = none r refl
  other_predicts none (of_star r i s m at span) = none r refl
  other_predicts none (of_plus r i s m at span) = none r refl

  -- One more alternative was gone through.
  pub alternatives_more : (alts : List (List Sym)) (n first : ℕ) (alt : List Sym) (old mid new : List (Vec Sym)) → n < length alts → alt ≡ get_or alts n alt →
      IsGrownBy (IsInAlternatives N K alts first) old mid → ExpectsAll (IsInAlternatives N K (take n alts) first) mid
      → IsGrownBy (IsInProductive N K alt first) mid new → ExpectsAll (IsInProductive N K alt first) new →
      IsGrownBy (IsInAlternatives N K alts first) old new × ExpectsAll (IsInAlternatives N K (take (n + 1) alts) first) new
  alternatives_more alts n first alt old mid new l is before has grown all =
      (grown_then before (grown_weaker (λ s m x. (alt, (n, l, sym is), x)) grown), λ s m (other, c, x). by s m other x (taken_cases alts n alt other l c))
    where
      by : (s : Sym) (m : ℕ) (other : List Sym) → IsInProductive N K other first s m → Contains (take n alts) other ⊎ (other ≡ get_or alts n alt)
          → Expects new s m
      by s m other x (inl c) = kept grown s m (has s m (other, c, x))
      by s m other x (inr e) = all s m (subst (λ a. IsInProductive N K a first s m) (e ∙ sym is) x)

  -- All ends up to the last position are all ends.
  pub ends_grown : (s : Sym) (p last : ℕ) (old new : List ℕ) → IsGrown (EndsUpTo N K s p last) old new → IsGrown (DerivesSpan N K s p) old new
  ends_grown s p last old new g = record { only = λ x c. by x (g.only x c); kept = g.kept }
    where
      by : (x : ℕ) → Contains old x ⊎ EndsUpTo N K s p last x → Contains old x ⊎ DerivesSpan N K s p x
      by x (inl c) = inl c
      by x (inr d) = inr d.0

  pub ends_all : (s : Sym) (p last : ℕ) (new : List ℕ) → last ≡ length K → HasAll (EndsUpTo N K s p last) new → HasAll (DerivesSpan N K s p) new
  ends_all s p last new e all x d = all x (d, omega (arith, e, d.within))

  -- One more position was gone on from.
  pub ends_more : (s : Sym) (positions : List ℕ) (n last : ℕ) (old new : List ℕ) → last ≡ length K → n < length positions
      → HasExactly (DerivesFrom N K s (take n positions)) old → IsStrictlyIncreasing new →
      IsGrown (EndsUpTo N K s (get_or positions n 0) last) old new → HasAll (EndsUpTo N K s (get_or positions n 0) last) new
      → HasExactly (DerivesFrom N K s (take (n + 1) positions)) new
  ends_more s positions n last old new e l h rising grown all =
      next_position N K s positions old new n l h rising (ends_grown s (get_or positions n 0) last old new grown)
      (ends_all s (get_or positions n 0) last new e all)

  pub ends_none : (s : Sym) (positions ends : List ℕ) → ends ≡ [] → HasExactly (DerivesFrom N K s (take 0 positions)) ends
  ends_none s positions ends e = subst (HasExactly (DerivesFrom N K s [])) (sym e) (exactly_none (DerivesFrom N K s []) (λ x h. contains_none h.0 h.1))

-- An alternative that is read from a normal form.
pub form_at : (alts : List (Vec Sym)) (i : ℕ) (v : Vec Sym) (alt : List Sym) → i < length alts → v ≡ get_or alts i v → alt ≡ v.items
    → (i < length (alts_form alts)) × (alt ≡ get_or (alts_form alts) i alt)
form_at [] i v alt l is e = absurd (omega (arith, l))
form_at (x ∷ alts) zero v alt l is e = (omega arith, e ∙ ap (λ (y : Vec Sym). y.items) is)
form_at (x ∷ alts) (suc i) v alt l is e = let (l', f) = form_at alts i v alt (omega (arith, l)) is e in (omega (arith, l'), f)
