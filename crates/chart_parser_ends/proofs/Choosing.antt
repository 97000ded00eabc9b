-- The work on a rule with alternatives.
use Rattle.std.proofs.Common.{◌≡◌, ℕ, zero, suc, ◌+◌, ◌<◌, ◌≤◌, ◌⊎◌, inl, inr, List, [], ◌∷◌, ◌++◌, length, Some, None}
use Rattle.std.proofs.Common.{slice_get, get_or, take, drop, refl, sym, ap, ◌∙◌, subst, arith}
use Rattle.std.proofs.lemmas.Grind.{get_or_default_zero}
use Rattle.std.proofs.lemmas.List.{take-append-drop, take_all, take_more}
use Rattle.std.proofs.lemmas.Option.{get_or_from_slice_get, slice_get_within}
use Rattle.std.specs.Global.{Vec}
use Rattle.std.specs.List.{Contains}
use Rattle.std.specs.List.Sorted.{IsStrictlyIncreasing}
use Rattle.normal_form.specs.declared.normal.Sym.{Sym}
use Rattle.normal_form.specs.declared.normal.Sym.TheVariants.{Kind, Rule}
use Rattle.normal_form.specs.Form.{NormalForm}
use Rattle.normal_form.specs.Spans.{DerivesSpan, DerivesSpanSeq}
use Rattle.chart_parser_ends.specs.declared.choice.Choice.{Choice}
use Rattle.chart_parser_ends.specs.Positions.{HasAll, HasExactly, IsGrown}
use Rattle.chart_parser_ends.specs.inner.Working.{DerivesEarlier, DerivesFrom, HasAlternatives, IsChoice, alternative_at, symbol_at}
use Rattle.chart_parser_ends.specs.inner.Moves.{Begins, HasNextAlternative, HasNextSymbol, IsNextSymbol}
use Rattle.chart_parser_ends.proofs.Rising.{order, take_cases}
use Rattle.chart_parser_ends.proofs.Exactly.{contains_none, exactly_grown, exactly_none, exactly_one, exactly_same, taken_before, taken_last}
use Rattle.chart_parser_ends.proofs.Spans.{joins, spans}

some-none : {X : Type 0} (x : X) → Some x ≡ None → ⊥
some-none x e = absurd (cc)

same_some : {X : Type 0} (x y : X) → Some x ≡ Some y → x ≡ y
same_some x y e = cc

past : {X : Type 0} (xs : List X) (i : ℕ) → slice_get xs i ≡ None → length xs ≤ i
past [] i e = omega arith
past (x ∷ xs) zero e = absurd (some-none x e)
past (x ∷ xs) (suc i) e = omega (arith, past xs i e)

module _ (N : NormalForm) (K : List ℕ) where
  -- no symbols were gone through
  begun_current : (ss : List Sym) (first : ℕ) → first ≤ length K → HasExactly (DerivesSpanSeq N K (take 0 ss) first) (first ∷ [])
  begun_current ss first l = exactly_one (DerivesSpanSeq N K [] first) first (DerivesSpanSeq.of_done first l) (λ x d. sym (((spans N K).done first x).0 d).0)

  begun_next : (s : Sym) (positions : List ℕ) → HasExactly (DerivesFrom N K s (take 0 positions)) []
  begun_next s positions = exactly_none (DerivesFrom N K s []) (λ x h. contains_none h.0 h.1)

  -- The work is at the beginning of an alternative, after earlier ones.
  pub choice_begins : (w : Choice) (rule first a : ℕ) (alts : List (List Sym)) → HasAlternatives N rule alts → first ≤ length K → Begins rule first a w
      → HasExactly (DerivesEarlier N K alts a first) w.ends.items → IsChoice N K w
  choice_begins w rule first a alts has l b ends = record {
    alts = alts;
    has = subst (λ r. HasAlternatives N r alts) (sym b.same_rule) has;
    within = omega (arith, l, b.same_first);
    ends =
        subst (λ n. HasExactly (DerivesEarlier N K alts n w.first) w.ends.items) (sym b.at)
        (subst (λ n. HasExactly (DerivesEarlier N K alts a n) w.ends.items) (sym b.same_first) ends);
    current =
        subst (HasExactly (DerivesSpanSeq N K (take w.symbol (alternative_at alts w.alternative)) w.first)) (sym b.current)
        (subst (λ n. HasExactly (DerivesSpanSeq N K (take n (alternative_at alts w.alternative)) w.first) (first ∷ [])) (sym b.symbol)
        (subst (λ n. HasExactly (DerivesSpanSeq N K (take 0 (alternative_at alts w.alternative)) n) (first ∷ [])) (sym b.same_first)
        (begun_current (alternative_at alts w.alternative) first l)));
    next =
        subst (HasExactly (DerivesFrom N K (symbol_at (alternative_at alts w.alternative) w.symbol) (take w.done w.current.items))) (sym b.next)
        (subst (λ n. HasExactly (DerivesFrom N K (symbol_at (alternative_at alts w.alternative) w.symbol) (take n w.current.items)) []) (sym b.done)
        (begun_next (symbol_at (alternative_at alts w.alternative) w.symbol) w.current.items));
  }

  pub choice_begun : (w : Choice) (rule first : ℕ) (alts : List (List Sym)) → HasAlternatives N rule alts → first ≤ length K → Begins rule first 0 w
      → w.ends.items ≡ [] → IsChoice N K w
  choice_begun w rule first alts has l b none =
      choice_begins w rule first 0 alts has l b
      (subst (HasExactly (DerivesEarlier N K alts 0 first)) (sym none) (exactly_none (DerivesEarlier N K alts 0 first) (λ x h. omega (arith, h.2))))

  -- there are no more symbols, or no positions to go on from
  abbrev pub Done : Choice → List Sym → Type 0
  Done w alt = (length alt ≤ w.symbol) ⊎ (length w.current.items ≡ 0)

  empty : (xs : List ℕ) → length xs ≡ 0 → xs ≡ []
  empty [] e = refl
  empty (x ∷ xs) e = absurd (omega (arith, e))

  -- The alternative is gone through: what it derives is where the work has come to.
  alternative_done : (w : Choice) (x : IsChoice N K w) (alt : List Sym) → slice_get x.alts w.alternative ≡ Some alt → Done w alt
      → HasExactly (DerivesSpanSeq N K alt w.first) w.current.items
  alternative_done w x alt at done = by done
    where
      same : alternative_at x.alts w.alternative ≡ alt
      same = get_or_from_slice_get x.alts w.alternative alt [] at

      current : HasExactly (DerivesSpanSeq N K (take w.symbol alt) w.first) w.current.items
      current = subst (λ l. HasExactly (DerivesSpanSeq N K (take w.symbol l) w.first) w.current.items) same x.current

      none : w.current.items ≡ [] → (j : ℕ) → DerivesSpanSeq N K alt w.first j → ⊥
      none e j d =
          let whole : DerivesSpanSeq N K (take w.symbol alt ++ drop w.symbol alt) w.first j =
          subst (λ l. DerivesSpanSeq N K l w.first j) (sym (take-append-drop w.symbol alt)) d in
          let (m, front, back) = ((joins N K).append (take w.symbol alt) (drop w.symbol alt) w.first j).0 whole in
          contains_none m (subst (λ l. Contains l m) e (current.all m front))

      by : Done w alt → HasExactly (DerivesSpanSeq N K alt w.first) w.current.items
      by (inl l) = subst (λ ss. HasExactly (DerivesSpanSeq N K ss w.first) w.current.items) (take_all w.symbol alt l) current
      by (inr e) = let none-left =
          empty w.current.items e in
          subst (HasExactly (DerivesSpanSeq N K alt w.first)) (sym none-left) (exactly_none (DerivesSpanSeq N K alt w.first) (none none-left))

  pub next_alternative : (w v : Choice) (x : IsChoice N K w) (alt : List Sym) → slice_get x.alts w.alternative ≡ Some alt → Done w alt → HasNextAlternative w v
      → IsChoice N K v
  next_alternative w v x alt at done n =
      choice_begins v w.rule w.first (w.alternative + 1) x.alts x.has x.within n.begins
      (exactly_grown (DerivesEarlier N K x.alts w.alternative w.first) (Contains w.current.items)
      (DerivesEarlier N K x.alts (w.alternative + 1) w.first) w.ends.items v.ends.items x.ends n.rising n.grown n.all first second either)
    where
      this : HasExactly (DerivesSpanSeq N K alt w.first) w.current.items
      this = alternative_done w x alt at done

      first : (j : ℕ) → DerivesEarlier N K x.alts w.alternative w.first j → DerivesEarlier N K x.alts (w.alternative + 1) w.first j
      first j (b, other, l, there, d) = (b, other, omega (arith, l), there, d)

      second : (j : ℕ) → Contains w.current.items j → DerivesEarlier N K x.alts (w.alternative + 1) w.first j
      second j c = (w.alternative, alt, omega arith, at, this.only j c)

      by : (j b : ℕ) (other : List Sym) → b < w.alternative + 1 → slice_get x.alts b ≡ Some other → DerivesSpanSeq N K other w.first j → (b < w.alternative)
          ⊎ (w.alternative ≤ b) → DerivesEarlier N K x.alts w.alternative w.first j ⊎ Contains w.current.items j
      by j b other l there d (inl m) = inl (b, other, m, there, d)
      by j b other l there d (inr m) =
          let e : b ≡ w.alternative = omega (arith, l, m) in
          let same : other ≡ alt = same_some other alt (sym there ∙ ap (slice_get x.alts) e ∙ at) in
          inr (this.all j (subst (λ ss. DerivesSpanSeq N K ss w.first j) same d))

      either : (j : ℕ) → DerivesEarlier N K x.alts (w.alternative + 1) w.first j → DerivesEarlier N K x.alts w.alternative w.first j
          ⊎ Contains w.current.items j
      either j (b, other, l, there, d) = by j b other l there d (order b w.alternative)

  -- The symbol is gone on by from each position: where it ends is where the symbols with it end.
  symbol_done : (alt : List Sym) (k first done : ℕ) (current next : List ℕ) → k < length alt → length current ≤ done
      → HasExactly (DerivesSpanSeq N K (take k alt) first) current → HasExactly (DerivesFrom N K (symbol_at alt k) (take done current)) next
      → HasExactly (DerivesSpanSeq N K (take (k + 1) alt) first) next
  symbol_done alt k first done current next l all h n =
      exactly_same (DerivesFrom N K (symbol_at alt k) (take done current)) (DerivesSpanSeq N K (take (k + 1) alt) first) next to back n
    where
      s : Sym
      s = symbol_at alt k

      more : take (k + 1) alt ≡ take k alt ++ s ∷ []
      more = take_more alt k (Kind 0) l

      every : take done current ≡ current
      every = take_all done current all

      to : (j : ℕ) → DerivesFrom N K s (take done current) j → DerivesSpanSeq N K (take (k + 1) alt) first j
      to j (p, c, d) =
          let front = h.only p (subst (λ l. Contains l p) every c) in
          subst (λ ss. DerivesSpanSeq N K ss first j) (sym more) (((joins N K).append (take k alt) (s ∷ []) first j).1 (p, front, ((joins N K).one s p j).1 d))

      back : (j : ℕ) → DerivesSpanSeq N K (take (k + 1) alt) first j → DerivesFrom N K s (take done current) j
      back j d =
          let (p, front, last) = ((joins N K).append (take k alt) (s ∷ []) first j).0 (subst (λ ss. DerivesSpanSeq N K ss first j) more d) in
          (p, subst (λ l. Contains l p) (sym every) (h.all p front), ((joins N K).one s p j).0 last)

  pub next_symbol : (w v : Choice) (x : IsChoice N K w) (alt : List Sym) → slice_get x.alts w.alternative ≡ Some alt → w.symbol < length alt
      → length w.current.items ≤ w.done → HasNextSymbol w v → IsChoice N K v
  next_symbol w v x alt at l all n = record {
    alts = x.alts;
    has = subst (λ r. HasAlternatives N r x.alts) (sym n.rule) x.has;
    within = omega (arith, x.within, n.first);
    ends =
        subst (HasExactly (DerivesEarlier N K x.alts v.alternative v.first)) (sym n.ends)
        (subst (λ a. HasExactly (DerivesEarlier N K x.alts a v.first) w.ends.items) (sym n.alternative)
        (subst (λ i. HasExactly (DerivesEarlier N K x.alts w.alternative i) w.ends.items) (sym n.first) x.ends));
    current =
        subst (HasExactly (DerivesSpanSeq N K (take v.symbol (alternative_at x.alts v.alternative)) v.first)) (sym n.current)
        (subst (λ k. HasExactly (DerivesSpanSeq N K (take k (alternative_at x.alts v.alternative)) v.first) w.next.items) (sym n.symbol)
        (subst (λ a. HasExactly (DerivesSpanSeq N K (take (w.symbol + 1) (alternative_at x.alts a)) v.first) w.next.items) (sym n.alternative)
        (subst (λ i. HasExactly (DerivesSpanSeq N K (take (w.symbol + 1) (alternative_at x.alts w.alternative)) i) w.next.items) (sym n.first) current)));
    next =
        subst (HasExactly (DerivesFrom N K (symbol_at (alternative_at x.alts v.alternative) v.symbol) (take v.done v.current.items))) (sym n.next)
        (subst (λ d. HasExactly (DerivesFrom N K (symbol_at (alternative_at x.alts v.alternative) v.symbol) (take d v.current.items)) []) (sym n.done)
        (begun_next (symbol_at (alternative_at x.alts v.alternative) v.symbol) v.current.items));
  }
    where
      same : alternative_at x.alts w.alternative ≡ alt
      same = get_or_from_slice_get x.alts w.alternative alt [] at

      current : HasExactly (DerivesSpanSeq N K (take (w.symbol + 1) (alternative_at x.alts w.alternative)) w.first) w.next.items
      current =
          symbol_done (alternative_at x.alts w.alternative) w.symbol w.first w.done w.current.items w.next.items
          (subst (λ ss. w.symbol < length ss) (sym same) l) all x.current x.next

  -- One more position is gone on from.
  pub next_position : (s : Sym) (current old new : List ℕ) (done : ℕ) → done < length current → HasExactly (DerivesFrom N K s (take done current)) old
      → IsStrictlyIncreasing new → IsGrown (DerivesSpan N K s (get_or current done 0)) old new → HasAll (DerivesSpan N K s (get_or current done 0)) new
      → HasExactly (DerivesFrom N K s (take (done + 1) current)) new
  next_position s current old new done l h rising grown all =
      exactly_grown (DerivesFrom N K s (take done current)) (DerivesSpan N K s p) (DerivesFrom N K s (take (done + 1) current)) old new h rising grown all
      (λ j (q, c, d). (q, taken_before current done q l c, d)) (λ j d. (p, taken_last current done l, d))
      (λ j (q, c, d). by j q d (take_cases current done 0 q l c))
    where
      p : ℕ
      p = get_or current done 0

      by : (j q : ℕ) → DerivesSpan N K s q j → Contains (take done current) q ⊎ (q ≡ p) → DerivesFrom N K s (take done current) j ⊎ DerivesSpan N K s p j
      by j q d (inl c) = inl (q, c, d)
      by j q d (inr e) = inr (subst (λ i. DerivesSpan N K s i j) e d)

  -- All alternatives are gone through.
  pub alternatives_done : (rule first a : ℕ) (alts : List (List Sym)) (ends : List ℕ) → HasAlternatives N rule alts → slice_get alts a ≡ None
      → HasExactly (DerivesEarlier N K alts a first) ends → HasExactly (DerivesSpan N K (Rule rule) first) ends
  alternatives_done rule first a alts ends (inl at) none h = exactly_same (DerivesEarlier N K alts a first) (DerivesSpan N K (Rule rule) first) ends to back h
    where
      to : (j : ℕ) → DerivesEarlier N K alts a first j → DerivesSpan N K (Rule rule) first j
      to j (b, alt, l, there, d) = ((spans N K).regular rule first j alts at).1 (b, alt, there, d)

      back : (j : ℕ) → DerivesSpan N K (Rule rule) first j → DerivesEarlier N K alts a first j
      back j d = let (b, alt, there, ds) =
          ((spans N K).regular rule first j alts at).0 d in (b, alt, omega (arith, past alts a none, slice_get_within alts b alt there), there, ds)
  alternatives_done rule first a alts ends (inr (no-rule, e)) none h =
      exactly_same (DerivesEarlier N K alts a first) (DerivesSpan N K (Rule rule) first) ends to back h
    where
      to : (j : ℕ) → DerivesEarlier N K alts a first j → DerivesSpan N K (Rule rule) first j
      to j (b, alt, l, there, d) = absurd (some-none alt (sym there ∙ ap (λ l. slice_get l b) e))

      back : (j : ℕ) → DerivesSpan N K (Rule rule) first j → DerivesEarlier N K alts a first j
      back j d = absurd ((spans N K).no_rule rule first j no-rule d)

  -- The symbol was gone on by from the next position.
  pub choice_on : (w : Choice) (s : Sym) (p : ℕ) (new : Vec ℕ) → IsChoice N K w → IsNextSymbol N w s → w.done < length w.current.items
      → p ≡ get_or w.current.items w.done p →
      IsStrictlyIncreasing new.items → IsGrown (DerivesSpan N K s p) w.next.items new.items → HasAll (DerivesSpan N K s p) new.items
      → IsChoice N K (record w { done = w.done + 1; next = new })
  choice_on w s p new x is l e rising grown all = record {
    alts = x.alts;
    has = x.has;
    within = x.within;
    ends = x.ends;
    current = x.current;
    next = next_position (symbol_at (alternative_at x.alts w.alternative) w.symbol) w.current.items w.next.items new.items w.done l x.next rising
        (subst (λ t. IsGrown (DerivesSpan N K t at) w.next.items new.items) same (subst (λ i. IsGrown (DerivesSpan N K s i) w.next.items new.items) here grown))
        (subst (λ t. HasAll (DerivesSpan N K t at) new.items) same (subst (λ i. HasAll (DerivesSpan N K s i) new.items) here all));
  }
    where
      at : ℕ
      at = get_or w.current.items w.done 0

      here : p ≡ at
      here = e ∙ get_or_default_zero w.current.items w.done p l

      same : s ≡ symbol_at (alternative_at x.alts w.alternative) w.symbol
      same = sym (is x.alts x.has)
