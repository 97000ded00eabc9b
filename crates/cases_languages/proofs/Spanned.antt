-- A pattern spans exactly where it spans, where each rule is known to span exactly where it does.
use Rattle.std.proofs.Common.{◌≡◌, ◌<◌, ◌≤◌, ◌+◌, ◌⊎◌, ◌↔◌, inl, inr, ℕ, Bool, List, Some, slice_get, length, refl, sym, ◌∙◌, subst, arith}
use Rattle.std.specs.List.{Contains}
use Rattle.std.proofs.lemmas.Option.{slice_get_within}
use Rattle.cases_languages.specs.Patterns.{Pattern, Spans}
use Rattle.cases_languages.specs.Positions.{AreRows, BodySpans, Grows, IsExact, IsIn, Known, Many, Pairs, SameEnds, SpansBy}
use Rattle.cases_languages.specs.declared.chart.Row.{Row}
use Rattle.cases_languages.proofs.Marks.{unmarked, fewer}
use Rattle.cases_languages.proofs.Pairs.{pairs_both, pairs_old, pairs_new, total, total_falls}

module _ (bodies : List Pattern) (K : List ℕ) where
  abbrev pub Sound : (ℕ → ℕ → ℕ → Type 0) → Type 0
  Sound known = (r i j : ℕ) → known r i j → Spans bodies K (Pattern.rule r) i j

  many_span : (p : Pattern) (R : ℕ → ℕ → Type 0) → ((i j : ℕ) → R i j → Spans bodies K p i j) → (i j : ℕ) → Many R i j → Spans bodies K (Pattern.plus p) i j
  many_span p R f i j (Many.last a b r) = Spans.by_last p i j (f i j r)
  many_span p R f i j (Many.more a m b r rest) = Spans.by_more p i m j (f i m r) (many_span p R f m j rest)

  pub spans_from : (known : ℕ → ℕ → ℕ → Type 0) → Sound known → (p : Pattern) (i j : ℕ) → SpansBy known K p i j → Spans bodies K p i j
  spans_from known s Pattern.never i j h = absurd h
  spans_from known s Pattern.empty i j h = let P : ℕ → Type 0 = λ n. Spans bodies K Pattern.empty i n in subst P h (Spans.by_empty i)
  spans_from known s (Pattern.one ranges) i j (k, g, h, e) = let P : ℕ → Type 0 =
      λ n. Spans bodies K (Pattern.one ranges) i n in subst P e (Spans.by_one ranges k i g h)
  spans_from known s (Pattern.rule r) i j h = s r i j h
  spans_from known s (Pattern.seq p q) i j (m, h, k) = Spans.by_seq p q i m j (spans_from known s p i m h) (spans_from known s q m j k)
  spans_from known s (Pattern.alt p q) i j (inl h) = Spans.by_left p q i j (spans_from known s p i j h)
  spans_from known s (Pattern.alt p q) i j (inr h) = Spans.by_right p q i j (spans_from known s q i j h)
  spans_from known s (Pattern.plus p) i j h = many_span p (SpansBy known K p) (λ a b. spans_from known s p a b) i j h

  abbrev pub Closed : (ℕ → ℕ → ℕ → Type 0) → Type 0
  Closed known = (r : ℕ) (p : Pattern) (i j : ℕ) → i ≤ length K → slice_get bodies r ≡ Some p → SpansBy known K p i j → known r i j

  pub spans_of : (known : ℕ → ℕ → ℕ → Type 0) → Closed known → {p : Pattern} {i j : ℕ} → Spans bodies K p i j → i ≤ length K → (j ≤ length K)
      × SpansBy known K p i j
  spans_of known c (Spans.by_empty i) h = (h, refl)
  spans_of known c (Spans.by_one ranges k i g e) h = (omega (arith, slice_get_within K i k g), (k, g, e, refl))
  spans_of known c (Spans.by_rule r p i j at d) h = let x = spans_of known c d h in (x.0, c r p i j h at x.1)
  spans_of known c (Spans.by_seq p q i m j d e) h = let x = spans_of known c d h in let y = spans_of known c e x.0 in (y.0, (m, x.1, y.1))
  spans_of known c (Spans.by_left p q i j d) h = let x = spans_of known c d h in (x.0, inl x.1)
  spans_of known c (Spans.by_right p q i j d) h = let x = spans_of known c d h in (x.0, inr x.1)
  spans_of known c (Spans.by_last p i j d) h = let x = spans_of known c d h in (x.0, Many.last i j x.1)
  spans_of known c (Spans.by_more p i m j d e) h = let x = spans_of known c d h in let y = spans_of known c e x.0 in (y.0, Many.more i m j x.1 y.1)

  module _ (rows next : List Row) (grown : Pairs (Grows (Known rows) bodies K) rows next) where
    pub grown_are_rows : (rules count : ℕ) → AreRows rows rules count → AreRows next rules count
    grown_are_rows rules count a = record {
      fit = λ new c. let x = pairs_old (Grows (Known rows) bodies K) rows next new grown c in let f =
          a.fit x.0 x.1 in (x.2.len ∙ f.0, omega (arith, x.2.start, f.1));
      within = λ new c. let x = pairs_old (Grows (Known rows) bodies K) rows next new grown c in omega (arith, x.2.rule, a.within x.0 x.1);
      all = λ r i h k. let z = a.all r i h k in let y =
          pairs_new (Grows (Known rows) bodies K) rows next z.0 grown z.1 in (y.0, y.1, y.2.rule ∙ z.2, y.2.start ∙ z.3);
    }

    pub grown_sound : Sound (Known rows) → Sound (Known next)
    grown_sound s r i j (new, c, e, d, m) = let x = pairs_old (Grows (Known rows) bodies K) rows next new grown c in go x.0 x.1 x.2 ((x.2.marks j).0 m)
      where
        go : (old : Row) → Contains rows old → Grows (Known rows) bodies K old new → IsIn old.ends.items j
            ⊎ BodySpans (Known rows) bodies K old.rule old.start j → Spans bodies K (Pattern.rule r) i j
        go old oc g (inl h) = s r i j (old, oc, sym g.rule ∙ e, sym g.start ∙ d, h)
        go old oc g (inr (p, at, h)) =
            let P : ℕ → Type 0 = λ n. Spans bodies K (Pattern.rule n) i j in
            let Q : ℕ → Type 0 = λ n. Spans bodies K (Pattern.rule old.rule) n j in
            subst P (sym g.rule ∙ e) (subst Q (sym g.start ∙ d) (Spans.by_rule old.rule p old.start j at (spans_from (Known rows) s p old.start j h)))

    grown_closed : AreRows rows (length bodies) (length K + 1) → Pairs SameEnds rows next → Closed (Known rows)
    grown_closed a same r p i j h at s =
        let z = a.all r i (slice_get_within bodies r p at) (omega (arith, h)) in
        let y =
        pairs_new (λ x y. Grows (Known rows) bodies K x y × SameEnds x y) rows next z.0
        (pairs_both (Grows (Known rows) bodies K) SameEnds rows next grown same) z.1 in
        let P : ℕ → Type 0 = λ n. slice_get bodies n ≡ Some p in
        let Q : ℕ → Type 0 = λ n. SpansBy (Known rows) K p n j in
        let R : List Bool → Type 0 = λ l. IsIn l j in
        (z.0, z.1, z.2, z.3, subst R (sym y.2.1) ((y.2.0.marks j).1 (inr (p, subst P (sym z.2) at, subst Q (sym z.3) s))))

    pub grown_exact : AreRows rows (length bodies) (length K + 1) → Sound (Known rows) → Pairs SameEnds rows next → IsExact rows bodies K (length K + 1)
    grown_exact a s same = record { sound = s; all = λ r i j h d. (spans_of (Known rows) (grown_closed a same) d (omega (arith, h))).1 }

    pub grown_fewer : (Pairs SameEnds rows next → ⊥) → total next < total rows
    grown_fewer other = go (total_falls (Grows (Known rows) bodies K) each rows next grown)
      where
        each : (x y : Row) → Grows (Known rows) bodies K x y → (y.ends.items ≡ x.ends.items) ⊎ (unmarked y.ends.items < unmarked x.ends.items)
        each x y g = fewer x.ends.items y.ends.items (omega (arith, g.len, x.ends.ok.0, y.ends.ok.0)) (λ j h. (g.marks j).1 (inl h))

        go : (Pairs SameEnds rows next × (total next ≡ total rows)) ⊎ (total next < total rows) → total next < total rows
        go (inl x) = absurd (other x.0)
        go (inr h) = h

  pub exact_ends : (rows : List Row) → IsExact rows bodies K (length K + 1) → (p : Pattern) (i j : ℕ) → i ≤ length K → SpansBy (Known rows) K p i j
      ↔ Spans bodies K p i j
  exact_ends rows e p i j h = (spans_from (Known rows) e.sound p i j, λ d. (spans_of (Known rows) closed d h).1)
    where
      closed : Closed (Known rows)
      closed r q a b k at s = e.all r a b (omega (arith, k)) (Spans.by_rule r q a b at (spans_from (Known rows) e.sound q a b s))
