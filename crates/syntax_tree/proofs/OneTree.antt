-- There is one preferred tree at most, up to numbers.
use Rattle.std.proofs.Common.{◌≡◌, ◌⊎◌, inl, inr, ℕ, suc, ◌+◌, ◌<◌, List, [], ◌∷◌, Some, slice_get, refl, sym, ap, ◌∙◌, subst, arith}
use Rattle.std.proofs.lemmas.Bool.{cases_lt}
use Rattle.std.proofs.lemmas.Option.{same_Some}
use Rattle.normal_form.specs.declared.normal.Sym.{Sym}
use Rattle.normal_form.specs.declared.normal.Sym.TheVariants.{Kind, Set, Rule}
use Rattle.normal_form.specs.Form.{RuleForm, NormalForm}
use Rattle.normal_form.specs.Spans.{DerivesSpan, DerivesSpanSeq, DerivesSpanMany}
use Rattle.normal_form.specs.SpanLaws.{SpansByForm}
use Rattle.syntax_tree.specs.Trees.{PlainTree, PlainTrees, renumbered, renumbered_all, size, size_all}
use Rattle.syntax_tree.specs.Preferred.{Preferred, PreferredSeq, PreferredMany, IsLeast, IsLongest, of_kind, of_set, of_regular}
use Rattle.syntax_tree.specs.Preferred.{of_present, of_absent, of_star, of_plus, of_done, of_next, of_end, of_more}
use Rattle.syntax_tree.specs.Laws.{PreferredTreesAreOne}
use Rattle.syntax_tree.proofs.PreferredTrees.{spans, spans_seq, spans_many}

mutual
  size_same : (n : ℕ) (t : PlainTree) → size (renumbered n t) ≡ size t
  size_same n (PlainTree.leaf m k i) = refl
  size_same n (PlainTree.node m r a ts) = ap suc (size_same_all (n + 1) ts)

  size_same_all : (n : ℕ) (ts : PlainTrees) → size_all (renumbered_all n ts) ≡ size_all ts
  size_same_all n PlainTrees.none = refl
  size_same_all n (PlainTrees.next t ts) =
      ap (λ x. x + size_all (renumbered_all (n + size t) ts)) (size_same n t) ∙ ap (λ x. size t + x) (size_same_all (n + size t) ts)

-- one tree, and then trees
joined_same : (n : ℕ) (t u : PlainTree) (ts us : PlainTrees) → ((m : ℕ) → renumbered m t ≡ renumbered m u)
    → ((m : ℕ) → renumbered_all m ts ≡ renumbered_all m us) → renumbered_all n (PlainTrees.next t ts) ≡ renumbered_all n (PlainTrees.next u us)
joined_same n t u ts us one more =
    let sizes : size t ≡ size u = sym (size_same 0 t) ∙ ap size (one 0) ∙ size_same 0 u in
    ap (λ (x : PlainTree). PlainTrees.next x (renumbered_all (n + size t) ts)) (one n)
    ∙ ap (λ (x : PlainTrees). PlainTrees.next (renumbered n u) x) (more (n + size t))
    ∙ ap (λ (m : ℕ). PlainTrees.next (renumbered n u) (renumbered_all (n + m) us)) sizes

module _ (N : NormalForm) (kinds : List ℕ) where
  -- what a preferred tree is, by its symbol
  kind_in : (s : Sym) (i j : ℕ) (u : PlainTree) (k : ℕ) → Preferred N kinds s i j u → s ≡ Kind k → (n : ℕ) × (u ≡ PlainTree.leaf n k i)
  kind_in s i j u k (of_kind n k' i' at) e = let same : k' ≡ k = cc in (n, ap (λ (x : ℕ). PlainTree.leaf n x i) same)
  kind_in s i j u k (of_set n g k' i' ks has c at) e = absurd (cc)
  kind_in s i j u k (of_regular n r a i' j' alts alt ts rule at least seq) e = absurd (cc)
  kind_in s i j u k (of_present n r i' j' x t rule p) e = absurd (cc)
  kind_in s i j u k (of_absent n r i' x rule within not) e = absurd (cc)
  kind_in s i j u k (of_star n r i' j' x ts rule many) e = absurd (cc)
  kind_in s i j u k (of_plus n r i' m j' x t ts rule p many longest) e = absurd (cc)

  set_in : (s : Sym) (i j : ℕ) (u : PlainTree) (g : ℕ) → Preferred N kinds s i j u → s ≡ Set g → (n : ℕ) × (k : ℕ) × (u ≡ PlainTree.leaf n k i)
      × (slice_get kinds i ≡ Some k)
  set_in s i j u g (of_set n g' k i' ks has c at) e = (n, k, refl, at)
  set_in s i j u g (of_kind n k i' at) e = absurd (cc)
  set_in s i j u g (of_regular n r a i' j' alts alt ts rule at least seq) e = absurd (cc)
  set_in s i j u g (of_present n r i' j' x t rule p) e = absurd (cc)
  set_in s i j u g (of_absent n r i' x rule within not) e = absurd (cc)
  set_in s i j u g (of_star n r i' j' x ts rule many) e = absurd (cc)
  set_in s i j u g (of_plus n r i' m j' x t ts rule p many longest) e = absurd (cc)

  abbrev Inside : RuleForm → ℕ → ℕ → ℕ → PlainTree → Type 0
  Inside (RuleForm.regular alts) r i j u =
      (n : ℕ) × (a : ℕ) × (alt : List Sym) × (ts : PlainTrees) × (u ≡ PlainTree.node n r a ts) × (slice_get alts a ≡ Some alt) × IsLeast N kinds alts a i j
      × PreferredSeq N kinds alt i j ts
  Inside (RuleForm.opt x) r i j u =
      ((n : ℕ) × (t : PlainTree) × (u ≡ PlainTree.node n r 0 (PlainTrees.next t PlainTrees.none)) × Preferred N kinds x i j t)
      ⊎ ((n : ℕ) × (u ≡ PlainTree.node n r 0 PlainTrees.none) × (i ≡ j) × (DerivesSpan N kinds x i i → ⊥))
  Inside (RuleForm.star x) r i j u = (n : ℕ) × (ts : PlainTrees) × (u ≡ PlainTree.node n r 0 ts) × PreferredMany N kinds x i j ts
  Inside (RuleForm.plus x) r i j u =
      (n : ℕ) × (m : ℕ) × (t : PlainTree) × (ts : PlainTrees) × (u ≡ PlainTree.node n r 0 (PlainTrees.next t ts)) × Preferred N kinds x i m t
      × PreferredMany N kinds x m j ts × IsLongest N kinds x i m (λ e. DerivesSpanMany N kinds x e j)

  by_form : (r q i j : ℕ) (u : PlainTree) (form other : RuleForm) → Rule q ≡ Rule r → slice_get N.rules r ≡ Some form → slice_get N.rules q ≡ Some other
      → Inside other q i j u → Inside form r i j u
  by_form r q i j u form other e at rule inside =
      let same : q ≡ r = cc in
      let forms : other ≡ form = same_Some other form (sym rule ∙ ap (slice_get N.rules) same ∙ at) in
      subst (λ (x : ℕ). Inside form x i j u) same (subst (λ (f : RuleForm). Inside f q i j u) forms inside)

  rule_in : (s : Sym) (i j : ℕ) (u : PlainTree) (r : ℕ) (form : RuleForm) → Preferred N kinds s i j u → s ≡ Rule r → slice_get N.rules r ≡ Some form
      → Inside form r i j u
  rule_in s i j u r form (of_kind n k i' at) e f = absurd (cc)
  rule_in s i j u r form (of_set n g k i' ks has c at) e f = absurd (cc)
  rule_in s i j u r form (of_regular n q a i' j' alts alt ts rule at least seq) e f =
      by_form r q i j u form (RuleForm.regular alts) e f rule (n, a, alt, ts, refl, at, least, seq)
  rule_in s i j u r form (of_present n q i' j' x t rule p) e f = by_form r q i j u form (RuleForm.opt x) e f rule (inl (n, t, refl, p))
  rule_in s i j u r form (of_absent n q i' x rule within not) e f = by_form r q i i u form (RuleForm.opt x) e f rule (inr (n, refl, refl, not))
  rule_in s i j u r form (of_star n q i' j' x ts rule many) e f = by_form r q i j u form (RuleForm.star x) e f rule (n, ts, refl, many)
  rule_in s i j u r form (of_plus n q i' m j' x t ts rule p many longest) e f =
      by_form r q i j u form (RuleForm.plus x) e f rule (n, m, t, ts, refl, p, many, longest)

  done_in : (i j : ℕ) (us : PlainTrees) → PreferredSeq N kinds [] i j us → us ≡ PlainTrees.none
  done_in i j us (of_done i' within) = refl

  next_in : (s : Sym) (ss : List Sym) (i j : ℕ) (us : PlainTrees) → PreferredSeq N kinds (s ∷ ss) i j us →
      (m : ℕ) × (t : PlainTree) × (ts : PlainTrees) × (us ≡ PlainTrees.next t ts) × Preferred N kinds s i m t × PreferredSeq N kinds ss m j ts
      × IsLongest N kinds s i m (λ e. DerivesSpanSeq N kinds ss e j)
  next_in s ss i j us (of_next s' ss' i' m j' t ts p rest longest) = (m, t, ts, refl, p, rest, longest)

  many_in : (s : Sym) (i j : ℕ) (us : PlainTrees) → PreferredMany N kinds s i j us →
      ((us ≡ PlainTrees.none) × (i ≡ j)) ⊎ ((i < j) × (m : ℕ) × (t : PlainTree) × (ts : PlainTrees) × (us ≡ PlainTrees.next t ts) × Preferred N kinds s i m t
      × PreferredMany N kinds s m j ts × IsLongest N kinds s i m (λ e. DerivesSpanMany N kinds s e j))
  many_in s i j us (of_end s' i' within) = inl (refl, refl)
  many_in s i j us (of_more s' i' m j' t ts lt p rest longest) = inr (lt, m, t, ts, refl, p, rest, longest)

  -- two longest ends are one
  one_end : (s : Sym) (i m e : ℕ) (Rest : ℕ → Type 0) → IsLongest N kinds s i m Rest → IsLongest N kinds s i e Rest → DerivesSpan N kinds s i m
      → DerivesSpan N kinds s i e → Rest m → Rest e → m ≡ e
  one_end s i m e Rest longest other d f rest rest' = elim (cases_lt m e) [
    | inl before ↦ absurd (longest e before f rest')
    | inr not_before ↦ elim (cases_lt e m) [ inl after ↦ absurd (other m after d rest) | inr not_after ↦ omega arith ]
  ]

  module _ (form : SpansByForm N kinds) where
    -- two preferred nodes of one rule, where what is below them is the same
    same_regular : (r a : ℕ) (alts : List (List Sym)) (alt : List Sym) (ts : PlainTrees) (u : PlainTree) (i j : ℕ) → slice_get alts a ≡ Some alt
        → IsLeast N kinds alts a i j → PreferredSeq N kinds alt i j ts →
        ((us : PlainTrees) → PreferredSeq N kinds alt i j us → (n : ℕ) → renumbered_all n ts ≡ renumbered_all n us) → Inside (RuleForm.regular alts) r i j u
        → (n : ℕ) → PlainTree.node n r a (renumbered_all (n + 1) ts) ≡ renumbered n u
    same_regular r a alts alt ts u i j at least seq below (m, b, other, us, is, at', least', seq') n = elim (cases_lt a b) [
      | inl before ↦ absurd (least' a alt before at (spans_seq N kinds form alt i j ts seq))
      | inr not_before ↦ elim (cases_lt b a) [
        | inl after ↦ absurd (least b other after at' (spans_seq N kinds form other i j us seq'))
        | inr not_after ↦
            let numbers : a ≡ b = omega arith in
            let alts_same : other ≡ alt = same_Some other alt (sym at' ∙ ap (slice_get alts) (sym numbers) ∙ at) in
            let P : List Sym → Type 0 = λ l. PreferredSeq N kinds l i j us in
            ap (λ (vs : PlainTrees). PlainTree.node n r a vs) (below us (subst P alts_same seq') (n + 1))
            ∙ ap (λ (x : ℕ). PlainTree.node n r x (renumbered_all (n + 1) us)) numbers
            ∙ ap (renumbered n) (sym is)
      ]
    ]

    same_opt : (x : Sym) (i j : ℕ) (v : PlainTree) (r : ℕ) (u : PlainTree) → Preferred N kinds x i j v
        → ((w : PlainTree) → Preferred N kinds x i j w → (n : ℕ) → renumbered n v ≡ renumbered n w) → Inside (RuleForm.opt x) r i j u → (n : ℕ)
        → PlainTree.node n r 0 (renumbered_all (n + 1) (PlainTrees.next v PlainTrees.none)) ≡ renumbered n u
    same_opt x i j v r u p below (inl (m, w, is, q)) n =
        ap (λ (y : PlainTree). PlainTree.node n r 0 (PlainTrees.next y PlainTrees.none)) (below w q (n + 1)) ∙ ap (renumbered n) (sym is)
    same_opt x i j v r u p below (inr (m, is, e, not)) n = let P : ℕ → Type 0 =
        λ k. DerivesSpan N kinds x i k in absurd (not (subst P (sym e) (spans N kinds form x i j v p)))

    absent_opt : (x : Sym) (i r : ℕ) (u : PlainTree) → (DerivesSpan N kinds x i i → ⊥) → Inside (RuleForm.opt x) r i i u → (n : ℕ)
        → PlainTree.node n r 0 PlainTrees.none ≡ renumbered n u
    absent_opt x i r u not (inl (m, w, is, q)) n = absurd (not (spans N kinds form x i i w q))
    absent_opt x i r u not (inr (m, is, e, not')) n = ap (renumbered n) (sym is)

    same_plus : (x : Sym) (i e j : ℕ) (v : PlainTree) (ts : PlainTrees) (r : ℕ) (u : PlainTree) → Preferred N kinds x i e v → PreferredMany N kinds x e j ts
        → IsLongest N kinds x i e (λ k. DerivesSpanMany N kinds x k j) →
        ((w : PlainTree) → Preferred N kinds x i e w → (n : ℕ) → renumbered n v ≡ renumbered n w)
        → ((us : PlainTrees) → PreferredMany N kinds x e j us → (n : ℕ) → renumbered_all n ts ≡ renumbered_all n us) → Inside (RuleForm.plus x) r i j u
        → (n : ℕ) → PlainTree.node n r 0 (renumbered_all (n + 1) (PlainTrees.next v ts)) ≡ renumbered n u
    same_plus x i e j v ts r u p many longest one more (m, f, w, us, is, q, many', longest') n =
        let ends : f ≡ e =
        sym (one_end x i e f (λ k. DerivesSpanMany N kinds x k j) longest longest' (spans N kinds form x i e v p) (spans N kinds form x i f w q)
        (spans_many N kinds form x e j ts many) (spans_many N kinds form x f j us many')) in
        let P : ℕ → Type 0 = λ k. Preferred N kinds x i k w in
        let Q : ℕ → Type 0 = λ k. PreferredMany N kinds x k j us in
        ap (λ (vs : PlainTrees). PlainTree.node n r 0 vs) (joined_same (n + 1) v w ts us (one w (subst P ends q)) (more us (subst Q ends many')))
        ∙ ap (renumbered n) (sym is)

    mutual
      same : (s : Sym) (i j : ℕ) (t u : PlainTree) → Preferred N kinds s i j t → Preferred N kinds s i j u → (n : ℕ) → renumbered n t ≡ renumbered n u
      same s i j t u (of_kind m k i' at) q n = let it = kind_in s i j u k q refl in ap (renumbered n) (sym it.1)
      same s i j t u (of_set m g k i' ks has c at) q n =
          let it = set_in s i j u g q refl in
          let kinds_same : k ≡ it.1 = same_Some k it.1 (sym at ∙ it.3) in
          ap (λ (x : ℕ). PlainTree.leaf n x i) kinds_same ∙ ap (renumbered n) (sym it.2)
      same s i j t u (of_regular m r a i' j' alts alt ts rule at least seq) q n =
          let it = rule_in s i j u r (RuleForm.regular alts) q refl rule in
          same_regular r a alts alt ts u i j at least seq (λ us q' k. same_seq alt i j ts us seq q' k) it n
      same s i j t u (of_present m r i' j' x v rule p) q n =
          same_opt x i j v r u p (λ w q' k. same x i j v w p q' k) (rule_in s i j u r (RuleForm.opt x) q refl rule) n
      same s i j t u (of_absent m r i' x rule within not) q n = absent_opt x i r u not (rule_in s i j u r (RuleForm.opt x) q refl rule) n
      same s i j t u (of_star m r i' j' x ts rule many) q n =
          let it = rule_in s i j u r (RuleForm.star x) q refl rule in
          ap (λ (vs : PlainTrees). PlainTree.node n r 0 vs) (same_many x i j ts it.1 many it.3 (n + 1)) ∙ ap (renumbered n) (sym it.2)
      same s i j t u (of_plus m r i' e j' x v ts rule p many longest) q n =
          same_plus x i e j v ts r u p many longest (λ w q' k. same x i e v w p q' k) (λ us q' k. same_many x e j ts us many q' k)
          (rule_in s i j u r (RuleForm.plus x) q refl rule) n

      same_seq : (ss : List Sym) (i j : ℕ) (ts us : PlainTrees) → PreferredSeq N kinds ss i j ts → PreferredSeq N kinds ss i j us → (n : ℕ)
          → renumbered_all n ts ≡ renumbered_all n us
      same_seq ss i j ts us (of_done i' within) q n = ap (renumbered_all n) (sym (done_in i j us q))
      same_seq ss i j ts us (of_next s ss' i' m j' t ts' p rest longest) q n =
          let it = next_in s ss' i j us q in
          let e = it.0 in
          let ends : e ≡ m =
          sym (one_end s i m e (λ k. DerivesSpanSeq N kinds ss' k j) longest it.6 (spans N kinds form s i m t p) (spans N kinds form s i e it.1 it.4)
          (spans_seq N kinds form ss' m j ts' rest) (spans_seq N kinds form ss' e j it.2 it.5)) in
          let P : ℕ → Type 0 = λ k. Preferred N kinds s i k it.1 in
          let Q : ℕ → Type 0 = λ k. PreferredSeq N kinds ss' k j it.2 in
          joined_same n t it.1 ts' it.2 (same s i m t it.1 p (subst P ends it.4)) (same_seq ss' m j ts' it.2 rest (subst Q ends it.5))
          ∙ ap (renumbered_all n) (sym it.3)

      same_many : (s : Sym) (i j : ℕ) (ts us : PlainTrees) → PreferredMany N kinds s i j ts → PreferredMany N kinds s i j us → (n : ℕ)
          → renumbered_all n ts ≡ renumbered_all n us
      same_many s i j ts us (of_end s' i' within) q n = elim (many_in s i j us q) [
        | inl (is, e) ↦ ap (renumbered_all n) (sym is)
        | inr more ↦ absurd (omega (arith, more.0))
      ]
      same_many s i j ts us (of_more s' i' m j' t ts' lt p rest longest) q n = elim (many_in s i j us q) [
        | inl (is, e) ↦ absurd (omega (arith, lt, e))
        | inr it ↦
            let e = it.1 in
            let ends : e ≡ m =
            sym (one_end s i m e (λ k. DerivesSpanMany N kinds s k j) longest it.7 (spans N kinds form s i m t p) (spans N kinds form s i e it.2 it.5)
            (spans_many N kinds form s m j ts' rest) (spans_many N kinds form s e j it.3 it.6)) in
            let P : ℕ → Type 0 = λ k. Preferred N kinds s i k it.2 in
            let Q : ℕ → Type 0 = λ k. PreferredMany N kinds s k j it.3 in
            joined_same n t it.2 ts' it.3 (same s i m t it.2 p (subst P ends it.5)) (same_many s m j ts' it.3 rest (subst Q ends it.6))
            ∙ ap (renumbered_all n) (sym it.4)
      ]

pub preferred_one : ((N : NormalForm) (kinds : List ℕ) → SpansByForm N kinds) → PreferredTreesAreOne
preferred_one form N kinds s i j t u p q = same N kinds (form N kinds) s i j t u p q 0
