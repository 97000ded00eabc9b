-- What holds of preferred trees.
use Rattle.std.proofs.Common.{◌≡◌, inl, inr, ℕ, ◌+◌, ◌≤◌, List, [], ◌∷◌, ◌++◌, Some, slice_get, get_or, refl, sym, ap, ◌∙◌, subst, arith}
use Rattle.std.specs.List.{between}
use Rattle.std.proofs.lemmas.List.{append-nil}
use Rattle.std.proofs.lemmas.List.Edits.{between_none}
use Rattle.std.proofs.lemmas.Option.{same_Some, slice_get-get_or, slice_get_within}
use Rattle.normal_form.specs.declared.normal.Sym.{Sym}
use Rattle.normal_form.specs.Form.{NormalForm}
use Rattle.compat_table.specs.Fits.{itself, in_set}
use Rattle.normal_form.specs.Spans.{DerivesSpan, DerivesSpanSeq, DerivesSpanMany}
use Rattle.normal_form.specs.Spans as span
use Rattle.normal_form.specs.SpanLaws.{SpansByForm}
use Rattle.normal_form.proofs.Lent.{between_append, between_one}
use Rattle.syntax_tree.specs.Trees.{PlainTree, PlainTrees, HasTokensFrom, HaveTokensFrom, kinds_of, renumbered, renumbered_all, size, weight, weight_all}
use Rattle.syntax_tree.specs.inner.Trees.{kinds_of_all}
use Rattle.syntax_tree.specs.Valid.{IsValid, AreValid, EachIsValid}
use Rattle.syntax_tree.specs.Valid as valid
use Rattle.syntax_tree.specs.Preferred.{Preferred, PreferredSeq, PreferredMany, of_kind, of_set, of_regular, of_present}
use Rattle.syntax_tree.specs.Preferred.{of_absent, of_star, of_plus, of_done, of_next, of_end, of_more}
use Rattle.syntax_tree.specs.Laws.{NumbersDontMatter, PreferredTreesAreValid}

module _ (N : NormalForm) (kinds : List ℕ) where
  mutual
    -- a preferred tree with other numbers is preferred
    renumber : (s : Sym) (i j n : ℕ) (t : PlainTree) → Preferred N kinds s i j t → Preferred N kinds s i j (renumbered n t)
    renumber s i j n t (of_kind m k i' at) = of_kind n k i at
    renumber s i j n t (of_set m g k i' ks has c at) = of_set n g k i ks has c at
    renumber s i j n t (of_regular m r a i' j' alts alt ts rule at least seq) =
        of_regular n r a i j alts alt (renumbered_all (n + 1) ts) rule at least (renumber_seq alt i j (n + 1) ts seq)
    renumber s i j n t (of_present m r i' j' x u rule p) = of_present n r i j x (renumbered (n + 1) u) rule (renumber x i j (n + 1) u p)
    renumber s i j n t (of_absent m r i' x rule within not) = of_absent n r i x rule within not
    renumber s i j n t (of_star m r i' j' x ts rule many) = of_star n r i j x (renumbered_all (n + 1) ts) rule (renumber_many x i j (n + 1) ts many)
    renumber s i j n t (of_plus m r i' e j' x u ts rule p many longest) =
        of_plus n r i e j x (renumbered (n + 1) u) (renumbered_all (n + 1 + size u) ts) rule (renumber x i e (n + 1) u p)
        (renumber_many x e j (n + 1 + size u) ts many) longest

    renumber_seq : (ss : List Sym) (i j n : ℕ) (ts : PlainTrees) → PreferredSeq N kinds ss i j ts → PreferredSeq N kinds ss i j (renumbered_all n ts)
    renumber_seq ss i j n ts (of_done i' within) = of_done i within
    renumber_seq ss i j n ts (of_next s ss' i' m j' t ts' p rest longest) =
        of_next s ss' i m j (renumbered n t) (renumbered_all (n + size t) ts') (renumber s i m n t p) (renumber_seq ss' m j (n + size t) ts' rest) longest

    renumber_many : (s : Sym) (i j n : ℕ) (ts : PlainTrees) → PreferredMany N kinds s i j ts → PreferredMany N kinds s i j (renumbered_all n ts)
    renumber_many s i j n ts (of_end s' i' within) = of_end s i within
    renumber_many s i j n ts (of_more s' i' m j' t ts' lt p rest longest) =
        of_more s i m j (renumbered n t) (renumbered_all (n + size t) ts') lt (renumber s i m n t p) (renumber_many s m j (n + size t) ts' rest) longest

  mutual
    -- a preferred tree is valid
    is_valid : (s : Sym) (i j : ℕ) (t : PlainTree) → Preferred N kinds s i j t → IsValid N s t
    is_valid s i j t (of_kind m k i' at) = valid.of_leaf s m k i (itself s)
    is_valid s i j t (of_set m g k i' ks has c at) = valid.of_leaf s m k i (in_set k g ks has c)
    is_valid s i j t (of_regular m r a i' j' alts alt ts rule at least seq) = valid.of_regular s m r a ts alts alt (itself s) rule at (are_valid alt i j ts seq)
    is_valid s i j t (of_present m r i' j' x u rule p) = valid.of_present s m r u x (itself s) rule (is_valid x i j u p)
    is_valid s i j t (of_absent m r i' x rule within not) = valid.of_absent s m r x (itself s) rule
    is_valid s i j t (of_star m r i' j' x ts rule many) = valid.of_star s m r ts x (itself s) rule (each_valid x i j ts many)
    is_valid s i j t (of_plus m r i' e j' x u ts rule p many longest) =
        valid.of_plus s m r u ts x (itself s) rule (valid.of_next x u ts (is_valid x i e u p) (each_valid x e j ts many))

    are_valid : (ss : List Sym) (i j : ℕ) (ts : PlainTrees) → PreferredSeq N kinds ss i j ts → AreValid N ss ts
    are_valid ss i j ts (of_done i' within) = valid.of_no_slots
    are_valid ss i j ts (of_next s ss' i' m j' t ts' p rest longest) = valid.of_slot s ss' t ts' (is_valid s i m t p) (are_valid ss' m j ts' rest)

    each_valid : (s : Sym) (i j : ℕ) (ts : PlainTrees) → PreferredMany N kinds s i j ts → EachIsValid N s ts
    each_valid s i j ts (of_end s' i' within) = valid.of_none s
    each_valid s i j ts (of_more s' i' m j' t ts' lt p rest longest) = valid.of_next s t ts' (is_valid s i m t p) (each_valid s m j ts' rest)

  -- parts of the list of kinds
  nothing : (i : ℕ) → [] ≡ between i i kinds
  nothing i = sym (between_none kinds i)

  both : (i m j : ℕ) (u v : List ℕ) → i ≤ m → m ≤ j → u ≡ between i m kinds → v ≡ between m j kinds → u ++ v ≡ between i j kinds
  both i m j u v im mj e f = ap (λ l. l ++ v) e ∙ ap (λ l. between i m kinds ++ l) f ∙ between_append kinds i m j im mj

  rises_seq : (i j : ℕ) (ss : List Sym) → DerivesSpanSeq N kinds ss i j → i ≤ j
  rises_seq i j ss (span.of_done i' within) = omega arith
  rises_seq i j ss (span.of_next s ss' i' m j' d rest) = omega (arith, d.rises, rises_seq m j ss' rest)

  rises_many : (s : Sym) (i j : ℕ) → DerivesSpanMany N kinds s i j → i ≤ j
  rises_many s i j (span.of_end i' within) = omega arith
  rises_many s i j (span.of_more i' m j' d rest) = omega (arith, d.rises, rises_many s m j rest)

  module _ (form : SpansByForm N kinds) where
    mutual
      -- the symbol of a preferred tree derives its span
      pub spans : (s : Sym) (i j : ℕ) (t : PlainTree) → Preferred N kinds s i j t → DerivesSpan N kinds s i j
      spans s i j t (of_kind m k i' at) = (form.kind k i j).1 (at, refl)
      spans s i j t (of_set m g k i' ks has c at) = (form.set g i j).1 (ks, k, has, c, at, refl)
      spans s i j t (of_regular m r a i' j' alts alt ts rule at least seq) = (form.regular r i j alts rule).1 (a, alt, at, spans_seq alt i j ts seq)
      spans s i j t (of_present m r i' j' x u rule p) = (form.opt r i j x rule).1 (inr (spans x i j u p))
      spans s i j t (of_absent m r i' x rule within not) = (form.opt r i i x rule).1 (inl (refl, within))
      spans s i j t (of_star m r i' j' x ts rule many) = (form.star r i j x rule).1 (spans_many x i j ts many)
      spans s i j t (of_plus m r i' e j' x u ts rule p many longest) = (form.plus r i j x rule).1 (e, spans x i e u p, spans_many x e j ts many)

      pub spans_seq : (ss : List Sym) (i j : ℕ) (ts : PlainTrees) → PreferredSeq N kinds ss i j ts → DerivesSpanSeq N kinds ss i j
      spans_seq ss i j ts (of_done i' within) = span.of_done i within
      spans_seq ss i j ts (of_next s ss' i' m j' t ts' p rest longest) = span.of_next s ss' i m j (spans s i m t p) (spans_seq ss' m j ts' rest)

      pub spans_many : (s : Sym) (i j : ℕ) (ts : PlainTrees) → PreferredMany N kinds s i j ts → DerivesSpanMany N kinds s i j
      spans_many s i j ts (of_end s' i' within) = span.of_end i within
      spans_many s i j ts (of_more s' i' m j' t ts' lt p rest longest) = span.of_more i m j (spans s i m t p) (spans_many s m j ts' rest)

    -- a span of one kind
    leaf_is : (k i : ℕ) → slice_get kinds i ≡ Some k → k ∷ [] ≡ between i (i + 1) kinds
    leaf_is k i at =
        let here = slice_get_within kinds i k at in
        let same : k ≡ get_or kinds i 0 = same_Some k (get_or kinds i 0) (sym at ∙ slice_get-get_or kinds i 0 here) in
        ap (λ (x : ℕ). x ∷ []) same ∙ sym (between_one kinds i here)

    mutual
      -- the leaves of a preferred tree are those of its span
      leaves_are : (s : Sym) (i j : ℕ) (t : PlainTree) → Preferred N kinds s i j t → kinds_of t ≡ between i j kinds
      leaves_are s i j t (of_kind m k i' at) = leaf_is k i at
      leaves_are s i j t (of_set m g k i' ks has c at) = leaf_is k i at
      leaves_are s i j t (of_regular m r a i' j' alts alt ts rule at least seq) = leaves_seq alt i j ts seq
      leaves_are s i j t (of_present m r i' j' x u rule p) = append-nil (kinds_of u) ∙ leaves_are x i j u p
      leaves_are s i j t (of_absent m r i' x rule within not) = nothing i
      leaves_are s i j t (of_star m r i' j' x ts rule many) = leaves_many x i j ts many
      leaves_are s i j t (of_plus m r i' e j' x u ts rule p many longest) =
          both i e j (kinds_of u) (kinds_of_all ts) (spans x i e u p).rises (rises_many x e j (spans_many x e j ts many)) (leaves_are x i e u p)
          (leaves_many x e j ts many)

      leaves_seq : (ss : List Sym) (i j : ℕ) (ts : PlainTrees) → PreferredSeq N kinds ss i j ts → kinds_of_all ts ≡ between i j kinds
      leaves_seq ss i j ts (of_done i' within) = nothing i
      leaves_seq ss i j ts (of_next s ss' i' m j' t ts' p rest longest) =
          both i m j (kinds_of t) (kinds_of_all ts') (spans s i m t p).rises (rises_seq m j ss' (spans_seq ss' m j ts' rest)) (leaves_are s i m t p)
          (leaves_seq ss' m j ts' rest)

      leaves_many : (s : Sym) (i j : ℕ) (ts : PlainTrees) → PreferredMany N kinds s i j ts → kinds_of_all ts ≡ between i j kinds
      leaves_many s i j ts (of_end s' i' within) = nothing i
      leaves_many s i j ts (of_more s' i' m j' t ts' lt p rest longest) =
          both i m j (kinds_of t) (kinds_of_all ts') (spans s i m t p).rises (rises_many s m j (spans_many s m j ts' rest)) (leaves_are s i m t p)
          (leaves_many s m j ts' rest)

  -- the tokens of what begins where another ends
  tokens_at : (i j f : ℕ) (ts : PlainTrees) → i + f ≡ j → HaveTokensFrom j ts → HaveTokensFrom (i + f) ts
  tokens_at i j f ts e has = let P : ℕ → Type 0 = λ n. HaveTokensFrom n ts in subst P (sym e) has

  mutual
    -- the leaves of a preferred tree are the tokens of its span, and are as many
    tokens_are : (s : Sym) (i j : ℕ) (t : PlainTree) → Preferred N kinds s i j t → HasTokensFrom i t × (i + weight t ≡ j)
    tokens_are s i j t (of_kind m k i' at) = (refl, omega arith)
    tokens_are s i j t (of_set m g k i' ks has c at) = (refl, omega arith)
    tokens_are s i j t (of_regular m r a i' j' alts alt ts rule at least seq) = tokens_seq alt i j ts seq
    tokens_are s i j t (of_present m r i' j' x u rule p) = let one = tokens_are x i j u p in ((one.0, tt), omega (arith, one.1))
    tokens_are s i j t (of_absent m r i' x rule within not) = (tt, omega arith)
    tokens_are s i j t (of_star m r i' j' x ts rule many) = tokens_many x i j ts many
    tokens_are s i j t (of_plus m r i' e j' x u ts rule p many longest) =
        let one = tokens_are x i e u p in
        let more = tokens_many x e j ts many in
        ((one.0, tokens_at i e (weight u) ts one.1 more.0), omega (arith, one.1, more.1))

    tokens_seq : (ss : List Sym) (i j : ℕ) (ts : PlainTrees) → PreferredSeq N kinds ss i j ts → HaveTokensFrom i ts × (i + weight_all ts ≡ j)
    tokens_seq ss i j ts (of_done i' within) = (tt, omega arith)
    tokens_seq ss i j ts (of_next s ss' i' m j' t ts' p rest longest) =
        let one = tokens_are s i m t p in
        let more = tokens_seq ss' m j ts' rest in
        ((one.0, tokens_at i m (weight t) ts' one.1 more.0), omega (arith, one.1, more.1))

    tokens_many : (s : Sym) (i j : ℕ) (ts : PlainTrees) → PreferredMany N kinds s i j ts → HaveTokensFrom i ts × (i + weight_all ts ≡ j)
    tokens_many s i j ts (of_end s' i' within) = (tt, omega arith)
    tokens_many s i j ts (of_more s' i' m j' t ts' lt p rest longest) =
        let one = tokens_are s i m t p in
        let more = tokens_many s m j ts' rest in
        ((one.0, tokens_at i m (weight t) ts' one.1 more.0), omega (arith, one.1, more.1))

pub numbers_free : NumbersDontMatter
numbers_free N kinds s i j n t p = renumber N kinds s i j n t p

pub preferred_valid : ((N : NormalForm) (kinds : List ℕ) → SpansByForm N kinds) → PreferredTreesAreValid
preferred_valid form N kinds s i j t p =
    record {
      valid = is_valid N kinds s i j t p;
      derived = spans N kinds (form N kinds) s i j t p;
      kinds_are = leaves_are N kinds (form N kinds) s i j t p;
      tokens = (tokens_are N kinds s i j t p).0;
      long = (tokens_are N kinds s i j t p).1;
    }
