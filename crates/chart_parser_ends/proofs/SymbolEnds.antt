-- The ends of one symbol from one position.
use Rattle.std.proofs.Common.{◌≡◌, ℕ, zero, suc, ◌+◌, ◌<◌, Bool, true, false, ◌||◌, List, [], ◌∷◌, ◌++◌, length, Option}
use Rattle.std.proofs.Common.{Some, None, slice_get, get_or, refl, sym, ap, ◌∙◌, subst, arith}
use Rattle.std.proofs.lemmas.Bool.{eqb-true, eq-eqb}
use Rattle.std.proofs.lemmas.Option.{get_or_from_slice_get, slice_get-get_or, slice_get_within}
use Rattle.std.proofs.lemmas.List.Elements.{All-contains, All-push}
use Rattle.std.specs.List.{All, Contains}
use Rattle.std.specs.Option.{option_map_or}
use Rattle.std.specs.Prelude.{Result, Ok, Err, OnErr, OnOk, nat_eq}
use Rattle.grammar_names.specs.KindLists.{is_in}
use Rattle.normal_form.specs.declared.normal.Sym.{Sym}
use Rattle.normal_form.specs.declared.normal.Sym.TheVariants.{Kind, Set, Rule}
use Rattle.normal_form.specs.Form.{NormalForm}
use Rattle.normal_form.specs.Spans.{DerivesSpan}
use Rattle.chart_parser_ends.specs.Input.{ChartInput}
use Rattle.chart_parser_ends.specs.inner.Entries.{Entry, entry}
use Rattle.chart_parser_ends.specs.inner.Exact.{IsExact, IsTokenOf}
use Rattle.chart_parser_ends.specs.Positions.{HasExactly}
use Rattle.chart_parser_ends.proofs.Exactly.{exactly_none, exactly_one}
use Rattle.chart_parser_ends.proofs.Spans.{spans}

module _ (N : NormalForm) (K : List ℕ) where
  contains_in : (ks : List ℕ) (k : ℕ) → is_in ks k ≡ true → Contains ks k
  contains_in [] k e = absurd (cc)
  contains_in (x ∷ ks) k e = by (nat_eq x k) refl (contains_in ks k)
    where
      later : Contains ks k → Contains (x ∷ ks) k
      later (n, l, e) = (suc n, omega (arith, l), e)

      by : (b : Bool) → nat_eq x k ≡ b → (is_in ks k ≡ true → Contains ks k) → Contains (x ∷ ks) k
      by true h rest = (zero, omega arith, eqb-true x k h)
      by false h rest = later (rest (ap (λ b. b || is_in ks k) (sym h) ∙ e))

  or_true : (b c : Bool) → c ≡ true → (b || c) ≡ true
  or_true true c e = refl
  or_true false c e = e

  in_contains : (ks : List ℕ) (k : ℕ) → Contains ks k → is_in ks k ≡ true
  in_contains [] k (n, l, e) = absurd (omega (arith, l))
  in_contains (x ∷ ks) k (zero, l, e) = ap (λ b. b || is_in ks k) (eq-eqb x k e)
  in_contains (x ∷ ks) k (suc n, l, e) = or_true (nat_eq x k) (is_in ks k) (in_contains ks k (n, omega (arith, l), e))

  -- whether the set has the kind
  abbrev pub set_has : ℕ → ℕ → Bool
  set_has g k = option_map_or (λ ks. is_in ks k) (slice_get N.sets g) false

  has_in : (g k : ℕ) → set_has g k ≡ true → (ks : List ℕ) × (slice_get N.sets g ≡ Some ks) × Contains ks k
  has_in g k e = by (slice_get N.sets g) refl
    where
      by : (o : Option (List ℕ)) → slice_get N.sets g ≡ o → (ks : List ℕ) × (slice_get N.sets g ≡ Some ks) × Contains ks k
      by None h = absurd (false_true (ap (λ o. option_map_or (λ ks. is_in ks k) o false) (sym h) ∙ e))
        where
          false_true : false ≡ true → ⊥
          false_true x = absurd (cc)
      by (Some ks) h = (ks, h, contains_in ks k (ap (λ o. option_map_or (λ ks. is_in ks k) o false) (sym h) ∙ e))

  in_has : (g k : ℕ) (ks : List ℕ) → slice_get N.sets g ≡ Some ks → Contains ks k → set_has g k ≡ true
  in_has g k ks at c = ap (λ o. option_map_or (λ ks. is_in ks k) o false) at ∙ in_contains ks k c

  pub set_token : (g k : ℕ) (answer : Bool) → answer ≡ set_has g k → (answer ≡ true → IsTokenOf N (Set g) k) × (IsTokenOf N (Set g) k → answer ≡ true)
  set_token g k answer e = (λ t. has_in g k (sym e ∙ t), λ (ks, at, c). e ∙ in_has g k ks at c)

  abbrev Starts : Sym → ℕ → Type 0
  Starts s i = (k : ℕ) × (slice_get K i ≡ Some k) × IsTokenOf N s k

  -- a kind or set ends after one token of it
  token_in : (s : Sym) (i x : ℕ) → ((r : ℕ) → s ≡ Rule r → ⊥) → DerivesSpan N K s i x → Starts s i × (x ≡ i + 1)
  token_in (Kind k) i x token d = let y = ((spans N K).kind k i x).0 d in ((k, y.0, refl), y.1)
  token_in (Set g) i x token d = let (ks, k, at, c, here, e) = ((spans N K).set g i x).0 d in ((k, here, (ks, at, c)), e)
  token_in (Rule r) i x token d = absurd (token r refl)

  token_of : (s : Sym) (i k : ℕ) → slice_get K i ≡ Some k → IsTokenOf N s k → DerivesSpan N K s i (i + 1)
  token_of (Kind own) i k here e = ((spans N K).kind own i (i + 1)).1 (here ∙ ap Some (sym e), refl)
  token_of (Set g) i k here (ks, at, c) = ((spans N K).set g i (i + 1)).1 (ks, k, at, c, here, refl)
  token_of (Rule r) i k here h = absurd h

  -- The position after a token of the symbol, and no position where there is none.
  pub token_exact : (s : Sym) (i : ℕ) → ((r : ℕ) → s ≡ Rule r → ⊥) → i < length K → IsTokenOf N s (get_or K i 0)
      → HasExactly (DerivesSpan N K s i) ((i + 1) ∷ [])
  token_exact s i token l is =
      exactly_one (DerivesSpan N K s i) (i + 1) (token_of s i (get_or K i 0) (slice_get-get_or K i 0 l) is) (λ x d. (token_in s i x token d).1)

  pub no_token : (s : Sym) (i : ℕ) → ((r : ℕ) → s ≡ Rule r → ⊥) → (i < length K → IsTokenOf N s (get_or K i 0) → ⊥) → HasExactly (DerivesSpan N K s i) []
  no_token s i token none = exactly_none (DerivesSpan N K s i) (λ x d. absurd (no_end x d))
    where
      no_end : (x : ℕ) → DerivesSpan N K s i x → ⊥
      no_end x d =
          let ((k, here, is), e) = token_in s i x token d in
          none (slice_get_within K i k here) (subst (IsTokenOf N s) (sym (get_or_from_slice_get K i k 0 here)) is)

-- The ends of an entry that is exact.
pub entry_exact : (N : NormalForm) (K : List ℕ) (entries : List Entry) (rule first : ℕ) (ends : List ℕ) → All (IsExact N K) entries
    → Contains entries (entry rule first ends) → HasExactly (DerivesSpan N K (Rule rule) first) ends
entry_exact N K entries rule first ends all h = All-contains (IsExact N K) entries (entry rule first ends) all h

-- One more entry that is exact, or none.
pub exact_stored : {T E : Type 0} (N : NormalForm) (K : List ℕ) (old new : List Entry) (e : Entry) (r : Result T E) → All (IsExact N K) old → IsExact N K e
    → OnOk r (new ≡ old ++ e ∷ []) → OnErr r (new ≡ old) → All (IsExact N K) new
exact_stored N K old new e (Ok x) all exact more same = subst (All (IsExact N K)) (sym more) (All-push (IsExact N K) old e all exact)
exact_stored N K old new e (Err x) all exact more same = subst (All (IsExact N K)) (sym same) all

-- The ends that the table of a chart has are those of the chart's symbol.
pub looked_up : (x z : ChartInput) (s : Sym) (first : ℕ) (ends : List ℕ) → x ≡ z → HasExactly (DerivesSpan x.normal x.kinds s first) ends
    → HasExactly (DerivesSpan z.normal z.kinds s first) ends
looked_up x z s first ends e h = subst (λ y. HasExactly (DerivesSpan y.normal y.kinds s first) ends) e h

-- So are those of the entry of its rule, after that was worked out.
pub worked_out : (x y z : ChartInput) (s : Sym) (rule first : ℕ) (ends : List ℕ) → y ≡ x → x ≡ z → s ≡ Rule rule
    → HasExactly (DerivesSpan y.normal y.kinds (Rule rule) first) ends → HasExactly (DerivesSpan z.normal z.kinds s first) ends
worked_out x y z s rule first ends same e is h =
    looked_up y z s first ends (same ∙ e) (subst (λ t. HasExactly (DerivesSpan y.normal y.kinds t first) ends) (sym is) h)
