-- The kinds that can follow a viable beginning are those of the token symbols that are expected after it.
use Rattle.std.proofs.Common.{◌≡◌, ◌⊎◌, inl, inr, ◌↔◌, ℕ, ◌≤◌, List, [], ◌∷◌, ◌++◌, length, take, Some}
use Rattle.std.proofs.Common.{slice_get, refl, sym, ap, ◌∙◌, subst, arith, append_assoc}
use Rattle.std.specs.List.{Contains, between}
use Rattle.std.proofs.lemmas.List.{append-nil}
use Rattle.std.proofs.lemmas.List.Edits.{between_none}
use Rattle.std.proofs.lemmas.Slice.{between_from_start}
use Rattle.normal_form.specs.declared.normal.Sym.{Sym}
use Rattle.normal_form.specs.declared.normal.Sym.TheVariants.{Kind, Set, Rule}
use Rattle.normal_form.specs.Form.{RuleForm, NormalForm}
use Rattle.normal_form.specs.NormalDerives.{NormalDerives, NormalDerivesSeq, NormalDerivesMany, of_kind, of_set, of_regular, of_absent}
use Rattle.normal_form.specs.NormalDerives.{of_present, of_star, of_plus, of_done, of_next, of_end, of_more}
use Rattle.normal_form.specs.FormLaws.{NormalDerivesByForm}
use Rattle.normal_form.proofs.Lent as forms
use Rattle.normal_form.specs.Spans.{DerivesSpan, DerivesSpanSeq, DerivesSpanMany}
use Rattle.normal_form.proofs.Lent.{between_append, cut, none_between}
use Rattle.chart_parser_ends.specs.inner.Exact.{IsTokenOf}
use Rattle.chart_parser_ends.proofs.Lent.{joins, lists, many_within}
use Rattle.chart_parser_prefix.specs.inner.Expected.{IsExpected, Predicts, of_start, of_symbol, of_alternative, of_optional}
use Rattle.chart_parser_prefix.specs.inner.Expected.{of_star as star_predicts, of_plus as plus_predicts}
use Rattle.chart_parser_prefix.specs.Prefixes.{CanFollow, IsViablePrefix}
use Rattle.chart_parser_prefix.specs.inner.Productive.{DerivesSomeSeq}
use Rattle.chart_parser_prefix.proofs.Cons.{first_same, no_list, rest_same}

by_form : (N : NormalForm) → NormalDerivesByForm N
by_form N = forms.by_form N

none_begins : (x v : List ℕ) (k : ℕ) → [] ≡ x ++ k ∷ v → ⊥
none_begins [] v k e = no_list k v e
none_begins (b ∷ x) v k e = no_list b (x ++ k ∷ v) e

-- one kind alone, cut before a kind
one_kind : (x v : List ℕ) (own k : ℕ) → own ∷ [] ≡ x ++ k ∷ v → (x ≡ []) × (own ≡ k)
one_kind [] v own k e = (refl, first_same own k [] v e)
one_kind (b ∷ x) v own k e = absurd (none_begins x v k (rest_same own b [] (x ++ k ∷ v) e))

-- A list that is cut in two, and has a kind after x: the kind is in the first part, or in the second.
abbrev IsFirst : List ℕ → List ℕ → ℕ → Type 0
IsFirst x u k = (rest : List ℕ) × (u ≡ x ++ k ∷ rest)

abbrev IsSecond : List ℕ → List ℕ → List ℕ → List ℕ → ℕ → Type 0
IsSecond x u w v k = (y : List ℕ) × (x ≡ u ++ y) × (w ≡ y ++ k ∷ v)

later : (x u w v : List ℕ) (a b k : ℕ) → a ≡ b → IsFirst x u k ⊎ IsSecond x u w v k → IsFirst (b ∷ x) (a ∷ u) k ⊎ IsSecond (b ∷ x) (a ∷ u) w v k
later x u w v a b k h (inl (r, f)) = inl (r, ap (λ z. z ∷ u) h ∙ ap (λ l. b ∷ l) f)
later x u w v a b k h (inr (y, f, g)) = inr (y, ap (λ l. b ∷ l) f ∙ ap (λ z. z ∷ (u ++ y)) (sym h), g)

split : (x u w v : List ℕ) (k : ℕ) → u ++ w ≡ x ++ k ∷ v → IsFirst x u k ⊎ IsSecond x u w v k
split x [] w v k e = inr (x, refl, e)
split [] (a ∷ u) w v k e = inl (u, ap (λ z. z ∷ u) (first_same a k (u ++ w) v e))
split (b ∷ x) (a ∷ u) w v k e = later x u w v a b k (first_same a b (u ++ w) (x ++ k ∷ v) e) (split x u w v k (rest_same a b (u ++ w) (x ++ k ∷ v) e))

-- The parts of a list regrouped.
regroup : (a b c d : List ℕ) → (a ++ b) ++ (c ++ d) ≡ a ++ ((b ++ c) ++ d)
regroup a b c d = append_assoc a b (c ++ d) ∙ ap (λ l. a ++ l) (sym (append_assoc b c d))

module _ (N : NormalForm) (K : List ℕ) where
  -- where a predicted symbol is
  pub predicts_within : {t s : Sym} {i m : ℕ} → i ≤ length K → Predicts N K t i s m → (i ≤ m) × (m ≤ length K)
  predicts_within l (of_alternative r i alts before s after m at has some span) = let x = ((lists N K).seq before i m).0 span in (x.0, x.1)
  predicts_within l (of_optional r i s at) = (omega arith, l)
  predicts_within l (star_predicts r i s m at span) = many_within span
  predicts_within l (plus_predicts r i s m at span) = many_within span

  -- what the elements of a star and one more element are
  one_more : (s : Sym) (u v : List ℕ) → NormalDerivesMany N s u → NormalDerives N s v → NormalDerivesMany N s (u ++ v)
  one_more s u v many d = (by_form N).many_append s u v many (subst (NormalDerivesMany N s) (append-nil v) (of_more s v [] d (of_end s)))

  -- the same for a plus, which has at least one
  plus_more : (r : ℕ) {s : Sym} {u : List ℕ} (v : List ℕ) → slice_get N.rules r ≡ Some (RuleForm.plus s) → NormalDerivesMany N s u → NormalDerives N s v
      → NormalDerives N (Rule r) (u ++ v)
  plus_more r v at (of_end s) d = subst (NormalDerives N (Rule r)) (append-nil v) (of_plus r s v [] at d (of_end s))
  plus_more r v at (of_more s a b da mb) d = subst (NormalDerives N (Rule r)) (sym (append_assoc a b v)) (of_plus r s a (b ++ v) at da (one_more s b v mb d))

  -- what a predicted symbol begins with, the symbol that predicts it begins with after what is before
  predicted : {t s : Sym} {i m : ℕ} → Predicts N K t i s m → (w : List ℕ) → IsViablePrefix N s w → IsViablePrefix N t (between i m K ++ w)
  predicted (of_alternative r i alts before s after m at has (w0, ds0) span) w (rest, d) =
      let (a, b, e, front, back) = ((by_form N).append before (s ∷ after) w0).0 ds0 in
      let (b1, b2, e2, one, others) = ((by_form N).next s after b).0 back in
      let x = ((lists N K).seq before i m).0 span in
      let tail : NormalDerivesSeq N (s ∷ after) ((w ++ rest) ++ b2) = of_next s after (w ++ rest) b2 d others in
      let whole : NormalDerivesSeq N (before ++ s ∷ after) (between i m K ++ ((w ++ rest) ++ b2)) =
      ((by_form N).append before (s ∷ after) (between i m K ++ ((w ++ rest) ++ b2))).1 (between i m K, (w ++ rest) ++ b2, refl, x.2, tail) in
      let derived : NormalDerives N (Rule r) (between i m K ++ ((w ++ rest) ++ b2)) =
      of_regular r alts (before ++ s ∷ after) (between i m K ++ ((w ++ rest) ++ b2)) at has whole in
      (rest ++ b2, subst (NormalDerives N (Rule r)) (sym (regroup (between i m K) w rest b2)) derived)
  predicted (of_optional r i s at) w (rest, d) =
      let none : w ++ rest ≡ (between i i K ++ w) ++ rest = ap (λ l. (l ++ w) ++ rest) (sym (between_none K i)) in
      (rest, subst (NormalDerives N (Rule r)) none (of_present r s (w ++ rest) at d))
  predicted (star_predicts r i s m at span) w (rest, d) =
      let x = ((lists N K).many s i m).0 span in
      let derived : NormalDerives N (Rule r) (between i m K ++ (w ++ rest)) =
      of_star r s (between i m K ++ (w ++ rest)) at (one_more s (between i m K) (w ++ rest) x.2 d) in
      (rest, subst (NormalDerives N (Rule r)) (sym (append_assoc (between i m K) w rest)) derived)
  predicted (plus_predicts r i s m at span) w (rest, d) =
      let x = ((lists N K).many s i m).0 span in
      (rest, subst (NormalDerives N (Rule r)) (sym (append_assoc (between i m K) w rest)) (plus_more r (w ++ rest) at x.2 d))

  -- what is before a position, and what is from there to another one
  pub joined : (i m : ℕ) (w : List ℕ) → i ≤ m → take i K ++ (between i m K ++ w) ≡ take m K ++ w
  joined i m w l =
      sym (append_assoc (take i K) (between i m K) w)
      ∙ ap (λ x. (x ++ between i m K) ++ w) (sym (between_from_start K i))
      ∙ ap (λ x. x ++ w) (between_append K 0 i m (omega arith) l)
      ∙ ap (λ x. x ++ w) (between_from_start K m)

module _ (N : NormalForm) (K : List ℕ) (start : Sym) where
  pub expected_within : {s : Sym} {i : ℕ} → IsExpected N K start s i → i ≤ length K
  expected_within of_start = omega arith
  expected_within (of_symbol t i s m e p) = (predicts_within N K (expected_within e) p).1

  -- What an expected symbol begins with can follow the kinds before it.
  pub sound : {s : Sym} {i : ℕ} → IsExpected N K start s i → (w : List ℕ) → IsViablePrefix N s w → IsViablePrefix N start (take i K ++ w)
  sound of_start w v = v
  sound (of_symbol t i s m e p) w v =
      subst (IsViablePrefix N start) (joined N K i m w (predicts_within N K (expected_within e) p).0) (sound e (between i m K ++ w) (predicted N K p w v))

  -- A token symbol with the kind is expected at the position.
  abbrev pub IsNext : ℕ → ℕ → Type 0
  IsNext n k = (t : Sym) × IsExpected N K start t n × IsTokenOf N t k

  module _ (n k : ℕ) (v : List ℕ) (l : n ≤ length K) where
    -- the first symbol has the kind, or it ends before, and what follows has it
    parts : (s : Sym) (u w : List ℕ) (i : ℕ) → i ≤ n → NormalDerives N s u → u ++ w ≡ between i n K ++ k ∷ v
        → ((rest : List ℕ) → u ≡ between i n K ++ k ∷ rest → IsNext n k) → ((m : ℕ) → m ≤ n → DerivesSpan N K s i m → w ≡ between m n K ++ k ∷ v → IsNext n k)
        → IsNext n k
    parts s u w i le d e first second = by (split (between i n K) u w v k e)
      where
        by : IsFirst (between i n K) u k ⊎ IsSecond (between i n K) u w v k → IsNext n k
        by (inl (rest, f)) = first rest f
        by (inr (y, f, g)) =
            let (m, c) = cut K u y i n le l f in
            second m c.before (record { rises = c.after; within = omega (arith, c.before, l); derived = subst (NormalDerives N s) (sym c.first) d })
            (g ∙ ap (λ z. z ++ k ∷ v) (sym c.second))

  module _ (n k : ℕ) (l : n ≤ length K) where
    mutual
      one : {s : Sym} {w : List ℕ} → NormalDerives N s w → (v : List ℕ) (i : ℕ) → i ≤ n → IsExpected N K start s i → w ≡ between i n K ++ k ∷ v → IsNext n k
      one (of_kind own) v i le x e =
          let both = one_kind (between i n K) v own k e in
          (Kind own, subst (IsExpected N K start (Kind own)) (none_between K i n le l both.0) x, both.1)
      one (of_set g own ks at c) v i le x e =
          let both = one_kind (between i n K) v own k e in
          (Set g, subst (IsExpected N K start (Set g)) (none_between K i n le l both.0) x, (ks, at, subst (Contains ks) both.1 c))
      one (of_regular r alts alt w at c ds) v i le x e = seq ds v r i alts [] at c (w, ds) x i le (DerivesSpanSeq.of_done i (omega (arith, le, l))) e
      one (of_absent r s at) v i le x e = absurd (none_begins (between i n K) v k e)
      one (of_present r s w at d) v i le x e = one d v i le (of_symbol (Rule r) i s i x (of_optional r i s at)) e
      one (of_star r s w at ds) v i le x e =
          many ds v i i (λ m span. of_symbol (Rule r) i s m x (star_predicts r i s m at span)) le (DerivesSpanMany.of_end i (omega (arith, le, l))) e
      one (of_plus r s u w at d ds) v i le x e =
          let expect : (m : ℕ) → DerivesSpanMany N K s i m → IsExpected N K start s m = λ m span. of_symbol (Rule r) i s m x (plus_predicts r i s m at span) in
          let here : DerivesSpanMany N K s i i = DerivesSpanMany.of_end i (omega (arith, le, l)) in
          parts n k v l s u w i le d e (λ rest f. one d rest i le (expect i here) f)
          (λ m lm span f. many ds v i m expect lm ((joins N K).one_more s i i m here span) f)

      seq : {ss : List Sym} {w : List ℕ} → NormalDerivesSeq N ss w → (v : List ℕ) (r i : ℕ) (alts : List (List Sym)) (before : List Sym)
          → slice_get N.rules r ≡ Some (RuleForm.regular alts) → Contains alts (before ++ ss) → DerivesSomeSeq N (before ++ ss) →
          IsExpected N K start (Rule r) i → (m : ℕ) → m ≤ n → DerivesSpanSeq N K before i m → w ≡ between m n K ++ k ∷ v → IsNext n k
      seq of_done v r i alts before at has some x m le span e = absurd (none_begins (between m n K) v k e)
      seq (of_next s ss u w d ds) v r i alts before at has some x m le span e =
          let regrouped : before ++ s ∷ ss ≡ (before ++ s ∷ []) ++ ss = sym (append_assoc before (s ∷ []) ss) in
          parts n k v l s u w m le d e (λ rest f. one d rest m le (of_symbol (Rule r) i s m x (of_alternative r i alts before s ss m at has some span)) f)
          (λ q lq one-span f.
          seq ds v r i alts (before ++ s ∷ []) at (subst (Contains alts) regrouped has) (subst (DerivesSomeSeq N) regrouped some) x q lq
          (((joins N K).append before (s ∷ []) i q).1 (m, span, ((joins N K).one s m q).1 one-span)) f)

      many : {s : Sym} {w : List ℕ} → NormalDerivesMany N s w → (v : List ℕ) (i m : ℕ) → ((j : ℕ) → DerivesSpanMany N K s i j → IsExpected N K start s j)
          → m ≤ n → DerivesSpanMany N K s i m → w ≡ between m n K ++ k ∷ v → IsNext n k
      many (of_end s) v i m expect le span e = absurd (none_begins (between m n K) v k e)
      many (of_more s u w d ds) v i m expect le span e =
          parts n k v l s u w m le d e (λ rest f. one d rest m le (expect m span) f)
          (λ q lq more f. many ds v i q expect lq ((joins N K).one_more s i m q span more) f)

    -- Each kind that can follow is one of an expected token symbol.
    complete : CanFollow N start (take n K) k → IsNext n k
    complete (rest, d) =
        one d rest 0 (omega arith) of_start (append_assoc (take n K) (k ∷ []) rest ∙ ap (λ x. x ++ k ∷ rest) (sym (between_from_start K n)))

    token_begins : (t : Sym) → IsTokenOf N t k → IsViablePrefix N t (k ∷ [])
    token_begins (Kind own) e = ([], subst (λ x. NormalDerives N (Kind own) (x ∷ [])) e (of_kind own))
    token_begins (Set g) (ks, at, c) = ([], of_set g k ks at c)
    token_begins (Rule r) h = absurd h

    -- The kinds that can follow the first n are those of the token symbols that are expected there.
    pub can_follow : CanFollow N start (take n K) k ↔ IsNext n k
    can_follow = (complete, λ (t, x, is). sound x (k ∷ []) (token_begins t is))

-- What a viable list begins with is viable.
pub shorter : (N : NormalForm) (s : Sym) (u v : List ℕ) → IsViablePrefix N s (u ++ v) → IsViablePrefix N s u
shorter N s u v (rest, d) = (v ++ rest, subst (NormalDerives N s) (append_assoc u v rest) d)
