-- Positions are gone through from left to right.
use Rattle.std.proofs.Common.{◌≡◌, ◌≢◌, ◌⊎◌, inl, inr, ◌↔◌, ℕ, zero, suc, ◌+◌, ◌<◌, ◌≤◌, true, List, [], ◌∷◌, ◌++◌}
use Rattle.std.proofs.Common.{length, take, get_or, Some, refl, sym, ap, ◌∙◌, subst, arith}
use Rattle.std.proofs.lemmas.Bool.{cases_eq, cases_lt}
use Rattle.std.proofs.lemmas.List.{append-nil, take-append-le, take_all, take_more}
use Rattle.std.proofs.lemmas.Option.{slice_get-get_or}
use Rattle.std.proofs.lemmas.Slice.{between_from_start}
use Rattle.std.specs.Global.{Vec}
use Rattle.std.specs.List.{Contains, between}
use Rattle.normal_form.specs.declared.normal.Sym.{Sym}
use Rattle.normal_form.specs.declared.normal.Sym.TheVariants.{Kind, Set, Rule}
use Rattle.normal_form.specs.Form.{NormalForm}
use Rattle.normal_form.specs.NormalDerives.{NormalDerives}
use Rattle.normal_form.specs.Spans.{DerivesSpan}
use Rattle.chart_parser_ends.specs.inner.Exact.{IsTokenOf}
use Rattle.chart_parser_ends.specs.Positions.{HasExactly}
use Rattle.chart_parser_ends.proofs.Lent.{exactly_same, spans}
use Rattle.chart_parser_prefix.specs.inner.Expected.{IsExpected, Predicts, is_token, of_start, of_symbol}
use Rattle.chart_parser_prefix.specs.inner.Following.{IsTokenOfOne}
use Rattle.chart_parser_prefix.specs.Prefixes.{CanFollow, IsLongestViable, IsViablePrefix}
use Rattle.chart_parser_prefix.specs.inner.Walk.{Expects, ExpectsAll, IsAtOneOf, IsClosed, IsClosedTo, IsGrownBy, IsWalk, IsWithout, symbols_at}
use Rattle.chart_parser_prefix.proofs.Growing.{contains_none, kept, taken_cases}
use Rattle.chart_parser_prefix.proofs.Viable.{can_follow, expected_within, joined, predicts_within, shorter, sound}

module _ (N : NormalForm) (K : List ℕ) (start : Sym) where
  -- The start symbol alone, at the first position.
  pub walk_begins : (old new : List (Vec Sym)) → length old ≡ length K + 1 → ((m : ℕ) → symbols_at old m ≡ []) → IsGrownBy (IsAtOneOf start (0 ∷ [])) old new
      → ExpectsAll (IsAtOneOf start (0 ∷ [])) new → IsWalk N K start 0 new
  walk_begins old new count empty grown all = record {
    count = grown.count ∙ count;
    sound = λ s m h. by s m (grown.only s m h);
    began = λ e. all start 0 (refl, (0, omega arith, refl));
    later = λ t i s m l x p le. absurd (omega (arith, l));
  }
    where
      by : (s : Sym) (m : ℕ) → Expects old s m ⊎ IsAtOneOf start (0 ∷ []) s m → IsExpected N K start s m
      by s m (inl c) = absurd (contains_none s (subst (λ l. Contains l s) (empty m) c))
      by s m (inr (e, (zero, l, at))) = subst (λ t. IsExpected N K start t m) (sym e) (subst (IsExpected N K start start) at of_start)
      by s m (inr (e, (suc k, l, at))) = absurd (omega (arith, l))

  pub walk_grown : (p : ℕ) {P : Sym → ℕ → Type 0} (old new : List (Vec Sym)) → IsWalk N K start p old → IsGrownBy P old new
      → ((s : Sym) (m : ℕ) → P s m → IsExpected N K start s m) → IsWalk N K start p new
  walk_grown p {P} old new w grown right = record {
    count = grown.count ∙ w.count;
    sound = λ s m h. by s m (grown.only s m h);
    began = λ e. kept grown start 0 (w.began e);
    later = λ t i s m l x q le. kept grown s m (w.later t i s m l x q le);
  }
    where
      by : (s : Sym) (m : ℕ) → Expects old s m ⊎ P s m → IsExpected N K start s m
      by s m (inl h) = w.sound s m h
      by s m (inr q) = right s m q

  -- One more symbol was gone through, or one that was before.
  first_same : (p n : ℕ) {P : Sym → ℕ → Type 0} (old new : List (Vec Sym)) → n ≤ length (symbols_at old p) → IsGrownBy P old new
      → take n (symbols_at new p) ≡ take n (symbols_at old p)
  first_same p n old new l grown = let (added, e) = grown.longer p in ap (take n) e ∙ take-append-le n (symbols_at old p) added l

  pub closed_more : (p n : ℕ) {P : Sym → ℕ → Type 0} (t d : Sym) (old new : List (Vec Sym)) → n < length (symbols_at old p) → t ≡ get_or (symbols_at old p) n d
      → IsClosedTo N K p n old → IsGrownBy P old new → ExpectsAll (Predicts N K t p) new → IsClosedTo N K p (n + 1) new
  closed_more p n t d old new l at closed grown all u s m c q =
      by (taken_cases (symbols_at old p) n d u l (subst (λ x. Contains x u) (first_same p (n + 1) old new (omega (arith, l)) grown) c))
    where
      by : Contains (take n (symbols_at old p)) u ⊎ (u ≡ get_or (symbols_at old p) n d) → Expects new s m
      by (inl h) = kept grown s m (closed u s m h q)
      by (inr e) = all s m (subst (λ x. Predicts N K x p s m) (e ∙ sym at) q)

  pub closed_again : (p n : ℕ) (t d : Sym) (lists : List (Vec Sym)) → n < length (symbols_at lists p) → t ≡ get_or (symbols_at lists p) n d
      → IsClosedTo N K p n lists → Contains (take n (symbols_at lists p)) t → IsClosedTo N K p (n + 1) lists
  closed_again p n t d lists l at closed before u s m c q = by (taken_cases (symbols_at lists p) n d u l c)
    where
      by : Contains (take n (symbols_at lists p)) u ⊎ (u ≡ get_or (symbols_at lists p) n d) → Expects lists s m
      by (inl h) = closed u s m h q
      by (inr e) = closed u s m (subst (Contains (take n (symbols_at lists p))) (at ∙ sym e) before) q

  pub closed_all : (p n : ℕ) (lists : List (Vec Sym)) → length (symbols_at lists p) ≤ n → IsClosedTo N K p n lists → IsClosed N K p lists
  closed_all p n lists l closed t s m h q = closed t s m (subst (λ x. Contains x t) (sym (take_all n (symbols_at lists p) l)) h) q

  pub closed_none : (p : ℕ) (lists : List (Vec Sym)) → IsClosedTo N K p 0 lists
  closed_none p lists t s m h q = absurd (contains_none t h)

  module _ (p : ℕ) (lists : List (Vec Sym)) (w : IsWalk N K start p lists) (closed : IsClosed N K p lists) where
    -- All that is expected at the position is in its list.
    all_there : {s : Sym} {q : ℕ} → IsExpected N K start s q → q ≡ p → Expects lists s p
    all_there of_start e = subst (Expects lists start) e (w.began (sym e))
    all_there (of_symbol t i s m x q) e = step (cases_lt i p) (λ here. all_there x here)
      where
        step : (i < p) ⊎ (p ≤ i) → (i ≡ p → Expects lists t p) → Expects lists s p
        step (inl l) before = subst (Expects lists s) e (w.later t i s m l x q (omega (arith, e)))
        step (inr l) before =
            let here : i ≡ p = omega (arith, l, e, (predicts_within N K (expected_within N K start x) q).0) in
            subst (Expects lists s) e (closed t s m (before here) (subst (λ j. Predicts N K t j s m) here q))

    pub exactly_expected : (s : Sym) → Expects lists s p ↔ IsExpected N K start s p
    exactly_expected s = (w.sound s p, λ x. all_there x refl)

    -- The walk comes to the next position.
    pub walk_on : (new : List (Vec Sym)) → IsWithout p lists new → IsWalk N K start (p + 1) new
    walk_on new without = record {
      count = without.count ∙ w.count;
      sound = λ s m h. right s m (cases_eq m p) h;
      began = λ e. absurd (omega (arith, e));
      later = λ t i s m l x q le. subst (λ y. Contains y s) (sym (without.others m (λ e. omega (arith, e, le)))) (there t i s m (cases_lt i p) l x q le);
    }
      where
        right : (s : Sym) (m : ℕ) → (m ≡ p) ⊎ (m ≢ p) → Expects new s m → IsExpected N K start s m
        right s m (inl e) h = absurd (contains_none s (subst (λ y. Contains y s) (ap (symbols_at new) e ∙ without.none) h))
        right s m (inr ne) h = w.sound s m (subst (λ y. Contains y s) (without.others m ne) h)

        there : (t : Sym) (i : ℕ) (s : Sym) (m : ℕ) → (i < p) ⊎ (p ≤ i) → i < p + 1 → IsExpected N K start t i → Predicts N K t i s m → p + 1 ≤ m
            → Expects lists s m
        there t i s m (inl less) l x q le = w.later t i s m less x q (omega (arith, le))
        there t i s m (inr more) l x q le =
            let here : i ≡ p = omega (arith, l, more) in
            closed t s m (all_there x here) (subst (λ j. Predicts N K t j s m) here q)

    pub follows : (k : ℕ) → p ≤ length K → CanFollow N start (take p K) k ↔ ((s : Sym) × Contains (symbols_at lists p) s × IsTokenOf N s k)
    follows k l = (
      λ f. let (t, x, is) = (can_follow N K start p k l).0 f in (t, all_there x refl, is),
      λ (s, c, is). (can_follow N K start p k l).1 (s, w.sound s p c, is),
    )

    -- A symbol that is expected and derives the next kind makes the longer beginning viable.
    pub goes_on : (s : Sym) → Expects lists s p → DerivesSpan N K s p (p + 1) → IsViablePrefix N start (take (p + 1) K)
    goes_on s c d =
        let one : List ℕ = between p (p + 1) K in
        let derived : NormalDerives N s ((one ++ []) ++ []) = subst (NormalDerives N s) (sym (append-nil (one ++ []) ∙ append-nil one)) d.derived in
        subst (IsViablePrefix N start) (joined N K p (p + 1) [] (omega arith) ∙ append-nil (take (p + 1) K))
        (sound N K start (w.sound s p c) (one ++ []) ([], derived))

    token_span : (s : Sym) → p < length K → IsTokenOf N s (get_or K p 0) → DerivesSpan N K s p (p + 1)
    token_span (Kind own) l is = ((spans N K).kind own p (p + 1)).1 (slice_get-get_or K p 0 l ∙ ap Some (sym is), refl)
    token_span (Set g) l (ks, at, c) = ((spans N K).set g p (p + 1)).1 (ks, get_or K p 0, at, c, slice_get-get_or K p 0 l, refl)
    token_span (Rule r) l h = absurd h

    is_one : (s : Sym) (k : ℕ) → IsTokenOf N s k → is_token s ≡ true
    is_one (Kind own) k h = refl
    is_one (Set g) k h = refl
    is_one (Rule r) k h = absurd h

    -- Where no token symbol does, that isn't viable.
    pub stops : p < length K → ((s : Sym) → Expects lists s p → is_token s ≡ true → DerivesSpan N K s p (p + 1) → ⊥) → IsViablePrefix N start (take (p + 1) K)
        → ⊥
    stops l none v =
        let k = get_or K p 0 in
        let (s, c, is) = (follows k (omega (arith, l))).0 (subst (IsViablePrefix N start) (take_more K p 0 l) v) in
        none s c (is_one s k is) (token_span s l is)

  -- The first viable beginning that isn't viable with the next kind is the longest one.
  pub is_longest : (p : ℕ) → p ≤ length K → IsViablePrefix N start (take p K) → (p < length K → IsViablePrefix N start (take (p + 1) K) → ⊥)
      → IsLongestViable N start K p
  is_longest p l viable next = record { within = l; viable = viable; longest = λ m le v. by m le v (cases_lt p m) }
    where
      by : (m : ℕ) → m ≤ length K → IsViablePrefix N start (take m K) → (p < m) ⊎ (m ≤ p) → m ≤ p
      by m le v (inl less) =
          let whole : take m K ≡ take (p + 1) K ++ (between (p + 1) m K ++ []) = sym (joined N K (p + 1) m [] (omega (arith, less)) ∙ append-nil (take m K)) in
          absurd (next (omega (arith, less, le)) (shorter N start (take (p + 1) K) (between (p + 1) m K ++ []) (subst (IsViablePrefix N start) whole v)))
      by m le v (inr same) = same

  -- What is before a position is derived.
  pub derived_to : (p : ℕ) → p ≤ length K → DerivesSpan N K start 0 p ↔ NormalDerives N start (take p K)
  derived_to p l =
      let front = between_from_start K p in (
        λ d. subst (NormalDerives N start) front d.derived,
        λ d. record { rises = omega arith; within = l; derived = subst (NormalDerives N start) (sym front) d },
      )

  -- All kinds that can follow, by those of the symbols at the position.
  pub all_following : (p : ℕ) (lists : List (Vec Sym)) → IsWalk N K start p lists → IsClosed N K p lists → p ≤ length K → (all : List ℕ)
      → HasExactly (IsTokenOfOne N (symbols_at lists p)) all → HasExactly (CanFollow N start (take p K)) all
  all_following p lists w closed l all h =
      exactly_same (IsTokenOfOne N (symbols_at lists p)) (CanFollow N start (take p K)) all (λ k x. (follows p lists w closed k l).1 x)
      (λ k x. (follows p lists w closed k l).0 x) h

-- One more symbol was tried that doesn't derive the next kind, or is no token symbol.
pub none_more : (N : NormalForm) (K : List ℕ) (p : ℕ) (symbols : List Sym) (i : ℕ) (s : Sym) → i < length symbols
    → ((t : Sym) → Contains (take i symbols) t → is_token t ≡ true → DerivesSpan N K t p (p + 1) → ⊥) →
    (is_token (get_or symbols i (Kind 0)) ≡ true → DerivesSpan N K (get_or symbols i (Kind 0)) p (p + 1) → ⊥) → Contains (take (i + 1) symbols) s
    → is_token s ≡ true → DerivesSpan N K s p (p + 1) → ⊥
none_more N K p symbols i s l before this h token d = by (taken_cases symbols i (Kind 0) s l h)
  where
    by : Contains (take i symbols) s ⊎ (s ≡ get_or symbols i (Kind 0)) → ⊥
    by (inl c) = before s c token d
    by (inr e) = this (subst (λ (t : Sym). is_token t ≡ true) e token) (subst (λ (t : Sym). DerivesSpan N K t p (p + 1)) e d)
