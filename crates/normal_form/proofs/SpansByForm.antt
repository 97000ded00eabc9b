-- How a symbol derives a span, by its form.
use Rattle.std.proofs.Common.{◌≡◌, ◌⊎◌, inl, inr, ℕ, ◌+◌, ◌≤◌, List, [], ◌∷◌, length, Some, slice_get, refl, sym, ap, ◌∙◌, subst, arith}
use Rattle.std.specs.List.{Contains, between}
use Rattle.std.proofs.lemmas.List.Edits.{between_none}
use Rattle.std.proofs.lemmas.Option.{slice_get_within, get_or_from_slice_get}
use Rattle.grammar_tree.specs.Laws.{CutsInto}
use Rattle.grammar_tree.proofs.Lent.{at_of_contains, contains_at}
use Rattle.normal_form.specs.declared.normal.Sym.{Sym}
use Rattle.normal_form.specs.declared.normal.Sym.TheVariants.{Kind, Set, Rule}
use Rattle.normal_form.specs.Form.{RuleForm, NormalForm}
use Rattle.normal_form.specs.NormalDerives.{NormalDerives, NormalDerivesMany}
use Rattle.normal_form.specs.FormLaws.{NormalDerivesByForm}
use Rattle.normal_form.specs.Spans.{DerivesSpan, DerivesSpanSeq, DerivesSpanMany}
use Rattle.normal_form.specs.SpanLaws.{SpansAreDerived, SpansByForm}
use Rattle.normal_form.proofs.Cuts.{between_append, between_one, cut, none_between, one_between}
use Rattle.normal_form.proofs.Derived.{derived}
use Rattle.normal_form.proofs.Joined.{done_in, next_in}

module _ (N : NormalForm) (kinds : List ℕ) (form : NormalDerivesByForm N) where
  abbrev Spans : SpansAreDerived N kinds
  Spans = derived N kinds

  -- what one kind at a position is
  pub kind_span : (s : Sym) (k i j : ℕ) → NormalDerives N s (k ∷ []) → slice_get kinds i ≡ Some k → j ≡ i + 1 → DerivesSpan N kinds s i j
  kind_span s k i j d at e =
      let here = slice_get_within kinds i k at in
      let one : between i (i + 1) kinds ≡ k ∷ [] = between_one kinds i here ∙ ap (λ x. x ∷ []) (get_or_from_slice_get kinds i k 0 at) in
      subst (DerivesSpan N kinds s i) (sym e) (record { rises = omega arith; within = omega (arith, here); derived = subst (NormalDerives N s) (sym one) d })

  kind_in : (k i j : ℕ) → DerivesSpan N kinds (Kind k) i j → (slice_get kinds i ≡ Some k) × (j ≡ i + 1)
  kind_in k i j d = one_between kinds i j k d.rises d.within ((form.kind k (between i j kinds)).0 d.derived)

  abbrev IsOneOf : ℕ → ℕ → ℕ → Type 0
  IsOneOf n i j = (ks : List ℕ) × (k : ℕ) × (slice_get N.sets n ≡ Some ks) × Contains ks k × (slice_get kinds i ≡ Some k) × (j ≡ i + 1)

  set_in : (n i j : ℕ) → DerivesSpan N kinds (Set n) i j → IsOneOf n i j
  set_in n i j d =
      let (ks, k, at, has, e) = (form.set n (between i j kinds)).0 d.derived in
      let one = one_between kinds i j k d.rises d.within e in
      (ks, k, at, has, one.0, one.1)

  regular_in : (r i j : ℕ) (alts : List (List Sym)) → slice_get N.rules r ≡ Some (RuleForm.regular alts) → DerivesSpan N kinds (Rule r) i j → (a : ℕ)
      × (alt : List Sym) × (slice_get alts a ≡ Some alt) × DerivesSpanSeq N kinds alt i j
  regular_in r i j alts at d =
      let (alt, has, ds) = (form.regular r alts (between i j kinds) at).0 d.derived in
      let (a, numbered) = at_of_contains alts alt has in
      (a, alt, numbered, (Spans.seq alt i j).1 (d.rises, d.within, ds))

  regular_of : (r i j : ℕ) (alts : List (List Sym)) → slice_get N.rules r ≡ Some (RuleForm.regular alts) → (a : ℕ) × (alt : List Sym)
      × (slice_get alts a ≡ Some alt) × DerivesSpanSeq N kinds alt i j → DerivesSpan N kinds (Rule r) i j
  regular_of r i j alts at (a, alt, numbered, ds) =
      let span = (Spans.seq alt i j).0 ds in
      record { rises = span.0; within = span.1; derived = (form.regular r alts (between i j kinds) at).1 (alt, contains_at alts a alt numbered, span.2) }

  opt_in : (r i j : ℕ) (s : Sym) → slice_get N.rules r ≡ Some (RuleForm.opt s) → DerivesSpan N kinds (Rule r) i j → ((i ≡ j) × (j ≤ length kinds))
      ⊎ DerivesSpan N kinds s i j
  opt_in r i j s at d = by ((form.opt r s (between i j kinds) at).0 d.derived)
    where
      by : (between i j kinds ≡ []) ⊎ NormalDerives N s (between i j kinds) → ((i ≡ j) × (j ≤ length kinds)) ⊎ DerivesSpan N kinds s i j
      by (inl e) = inl (none_between kinds i j d.rises d.within e, d.within)
      by (inr x) = inr (record { rises = d.rises; within = d.within; derived = x })

  opt_of : (r i j : ℕ) (s : Sym) → slice_get N.rules r ≡ Some (RuleForm.opt s) → ((i ≡ j) × (j ≤ length kinds)) ⊎ DerivesSpan N kinds s i j
      → DerivesSpan N kinds (Rule r) i j
  opt_of r i j s at (inl (same, l)) =
      let e : between i j kinds ≡ [] = ap (λ n. between i n kinds) (sym same) ∙ between_none kinds i in
      record { rises = omega (arith, same); within = l; derived = (form.opt r s (between i j kinds) at).1 (inl e) }
  opt_of r i j s at (inr x) = record { rises = x.rises; within = x.within; derived = (form.opt r s (between i j kinds) at).1 (inr x.derived) }

  star_in : (r i j : ℕ) (s : Sym) → slice_get N.rules r ≡ Some (RuleForm.star s) → DerivesSpan N kinds (Rule r) i j → DerivesSpanMany N kinds s i j
  star_in r i j s at d = (Spans.many s i j).1 (d.rises, d.within, (form.star r s (between i j kinds) at).0 d.derived)

  star_of : (r i j : ℕ) (s : Sym) → slice_get N.rules r ≡ Some (RuleForm.star s) → DerivesSpanMany N kinds s i j → DerivesSpan N kinds (Rule r) i j
  star_of r i j s at d =
      let span = (Spans.many s i j).0 d in
      record { rises = span.0; within = span.1; derived = (form.star r s (between i j kinds) at).1 span.2 }

  abbrev OnceAndMore : Sym → ℕ → ℕ → Type 0
  OnceAndMore s i j = (m : ℕ) × DerivesSpan N kinds s i m × DerivesSpanMany N kinds s m j

  once_in : (s : Sym) (i j : ℕ) → i ≤ j → j ≤ length kinds → CutsInto (NormalDerives N s) (NormalDerivesMany N s) (between i j kinds) → OnceAndMore s i j
  once_in s i j h within (u, v, e, x, y) =
      let (m, c) = cut kinds u v i j h within e in (
        m,
        record { rises = c.after; within = omega (arith, c.before, within); derived = subst (NormalDerives N s) (sym c.first) x },
        (Spans.many s m j).1 (c.before, within, subst (NormalDerivesMany N s) (sym c.second) y),
      )

  plus_in : (r i j : ℕ) (s : Sym) → slice_get N.rules r ≡ Some (RuleForm.plus s) → DerivesSpan N kinds (Rule r) i j → OnceAndMore s i j
  plus_in r i j s at d = once_in s i j d.rises d.within ((form.plus r s (between i j kinds) at).0 d.derived)

  plus_of : (r i j : ℕ) (s : Sym) → slice_get N.rules r ≡ Some (RuleForm.plus s) → OnceAndMore s i j → DerivesSpan N kinds (Rule r) i j
  plus_of r i j s at (m, d, ds) =
      let rest = (Spans.many s m j).0 ds in
      record {
        rises = omega (arith, d.rises, rest.0);
        within = rest.1;
        derived =
            (form.plus r s (between i j kinds) at).1 (between i m kinds, between m j kinds, sym (between_append kinds i m j d.rises rest.0), d.derived, rest.2);
      }

  many_in : {s : Sym} {i j : ℕ} → DerivesSpanMany N kinds s i j → ((i ≡ j) × (j ≤ length kinds)) ⊎ OnceAndMore s i j
  many_in (DerivesSpanMany.of_end i l) = inl (refl, l)
  many_in (DerivesSpanMany.of_more i m j d ds) = inr (m, d, ds)

  many_of : (s : Sym) (i j : ℕ) → ((i ≡ j) × (j ≤ length kinds)) ⊎ OnceAndMore s i j → DerivesSpanMany N kinds s i j
  many_of s i j (inl (same, l)) = subst (DerivesSpanMany N kinds s i) same (DerivesSpanMany.of_end i (omega (arith, same, l)))
  many_of s i j (inr (m, d, ds)) = DerivesSpanMany.of_more i m j d ds

  done_of : (i j : ℕ) → (i ≡ j) × (j ≤ length kinds) → DerivesSpanSeq N kinds [] i j
  done_of i j (same, l) = subst (DerivesSpanSeq N kinds [] i) same (DerivesSpanSeq.of_done i (omega (arith, same, l)))

  pub by_form : SpansByForm N kinds
  by_form = record {
    kind = λ k i j. (kind_in k i j, (λ (at, e). kind_span (Kind k) k i j ((form.kind k (k ∷ [])).1 refl) at e));
    set = λ n i j. (set_in n i j, (λ (ks, k, at, has, here, e). kind_span (Set n) k i j ((form.set n (k ∷ [])).1 (ks, k, at, has, refl)) here e));
    no_rule = λ r i j none d. form.no_rule r (between i j kinds) none d.derived;
    regular = λ r i j alts at. (regular_in r i j alts at, regular_of r i j alts at);
    opt = λ r i j s at. (opt_in r i j s at, opt_of r i j s at);
    star = λ r i j s at. (star_in r i j s at, star_of r i j s at);
    plus = λ r i j s at. (plus_in r i j s at, plus_of r i j s at);
    done = λ i j. ((λ d. done_in N kinds d), done_of i j);
    next = λ s ss i j. ((λ d. next_in N kinds d), (λ (m, d, ds). DerivesSpanSeq.of_next s ss i m j d ds));
    many = λ s i j. ((λ d. many_in d), many_of s i j);
  }
