-- How the symbols of a normal form derive, by their form.
use Rattle.std.proofs.Common.{◌≡◌, ◌⊎◌, inl, inr, ℕ, List, [], ◌∷◌, ◌++◌, Some, None, slice_get, refl, sym, ap, ◌∙◌, subst, append_assoc}
use Rattle.std.proofs.lemmas.List.{append-nil}
use Rattle.std.proofs.lemmas.Option.{none-some}
use Rattle.std.specs.List.{Contains}
use Rattle.grammar_tree.specs.Laws.{CutsInto}
use Rattle.normal_form.specs.declared.normal.Sym.{Sym}
use Rattle.normal_form.specs.declared.normal.Sym.TheVariants.{Kind, Set, Rule}
use Rattle.normal_form.specs.Form.{RuleForm, NormalForm}
use Rattle.normal_form.specs.NormalDerives.{NormalDerives, NormalDerivesSeq, NormalDerivesMany, of_kind, of_set, of_regular, of_absent}
use Rattle.normal_form.specs.NormalDerives.{of_present, of_star, of_plus, of_done, of_next, of_end, of_more}
use Rattle.normal_form.specs.FormLaws.{NormalDerivesByForm}
use Rattle.grammar_tree.proofs.Lent.{at_of_contains, contains_at}
use Rattle.normal_form.proofs.Lists.{Contains-nil}
use Rattle.normal_form.proofs.Forward.{OneOf, all_inverse, regular_inverse, star_inverse}

module _ (N : NormalForm) where
  kind_in : (k : ℕ) (w : List ℕ) → NormalDerives N (Kind k) w → w ≡ k ∷ []
  kind_in k w (of_kind k') = refl

  kind_of : (k : ℕ) (w : List ℕ) → w ≡ k ∷ [] → NormalDerives N (Kind k) w
  kind_of k w e = let P : List ℕ → Type 0 = λ x. NormalDerives N (Kind k) x in subst P (sym e) (of_kind k)

  abbrev OneKind : ℕ → List ℕ → Type 0
  OneKind i w = (ks : List ℕ) × (k : ℕ) × (slice_get N.sets i ≡ Some ks) × Contains ks k × (w ≡ k ∷ [])

  set_in : (i : ℕ) (w : List ℕ) → NormalDerives N (Set i) w → OneKind i w
  set_in i w (of_set i' k ks at c) = (ks, k, at, c, refl)

  set_of : (i : ℕ) (w : List ℕ) → OneKind i w → NormalDerives N (Set i) w
  set_of i w (ks, k, at, c, e) = let P : List ℕ → Type 0 = λ x. NormalDerives N (Set i) x in subst P (sym e) (of_set i k ks at c)

  no_rule : (r : ℕ) (w : List ℕ) → slice_get N.rules r ≡ None → NormalDerives N (Rule r) w → ⊥
  no_rule r w e (of_regular r' alts alt w' at c d) = absurd (none-some (RuleForm.regular alts) (sym e ∙ at))
  no_rule r w e (of_absent r' s at) = absurd (none-some (RuleForm.opt s) (sym e ∙ at))
  no_rule r w e (of_present r' s w' at d) = absurd (none-some (RuleForm.opt s) (sym e ∙ at))
  no_rule r w e (of_star r' s w' at m) = absurd (none-some (RuleForm.star s) (sym e ∙ at))
  no_rule r w e (of_plus r' s u v at d m) = absurd (none-some (RuleForm.plus s) (sym e ∙ at))

  regular_of : (r : ℕ) (alts : List (List Sym)) (w : List ℕ) → slice_get N.rules r ≡ Some (RuleForm.regular alts) → OneOf N alts w → NormalDerives N (Rule r) w
  regular_of r alts w at (alt, c, d) = of_regular r alts alt w at c d

  opt_in : (r : ℕ) (s : Sym) (w : List ℕ) → slice_get N.rules r ≡ Some (RuleForm.opt s) → NormalDerives N (Rule r) w → (w ≡ []) ⊎ NormalDerives N s w
  opt_in r s w at (of_absent r' s' at') = inl refl
  opt_in r s w at (of_present r' s' w' at' d) =
      let same : s' ≡ s = cc in let P : Sym → Type 0 = λ x. NormalDerives N x w in inr (subst P same d)
  opt_in r s w at (of_regular r' alts alt w' at' c d) = absurd (cc)
  opt_in r s w at (of_star r' s' w' at' m) = absurd (cc)
  opt_in r s w at (of_plus r' s' u v at' d m) = absurd (cc)

  opt_of : (r : ℕ) (s : Sym) (w : List ℕ) → slice_get N.rules r ≡ Some (RuleForm.opt s) → (w ≡ []) ⊎ NormalDerives N s w → NormalDerives N (Rule r) w
  opt_of r s w at (inl e) = let P : List ℕ → Type 0 = λ x. NormalDerives N (Rule r) x in subst P (sym e) (of_absent r s at)
  opt_of r s w at (inr d) = of_present r s w at d

  plus_in : (r : ℕ) (s : Sym) (w : List ℕ) → slice_get N.rules r ≡ Some (RuleForm.plus s) → NormalDerives N (Rule r) w
      → CutsInto (NormalDerives N s) (NormalDerivesMany N s) w
  plus_in r s w at (of_plus r' s' u v at' d m) =
      let same : s' ≡ s = cc in
      let P : Sym → Type 0 = λ x. NormalDerives N x u in
      let Q : Sym → Type 0 = λ x. NormalDerivesMany N x v in (u, v, refl, subst P same d, subst Q same m)
  plus_in r s w at (of_regular r' alts alt w' at' c d) = absurd (cc)
  plus_in r s w at (of_absent r' s' at') = absurd (cc)
  plus_in r s w at (of_present r' s' w' at' d) = absurd (cc)
  plus_in r s w at (of_star r' s' w' at' m) = absurd (cc)

  plus_of : (r : ℕ) (s : Sym) (w : List ℕ) → slice_get N.rules r ≡ Some (RuleForm.plus s) → CutsInto (NormalDerives N s) (NormalDerivesMany N s) w
      → NormalDerives N (Rule r) w
  plus_of r s w at (u, v, e, d, m) = let P : List ℕ → Type 0 = λ x. NormalDerives N (Rule r) x in subst P (sym e) (of_plus r s u v at d m)

  many_in : (s : Sym) (w : List ℕ) → NormalDerivesMany N s w → (w ≡ []) ⊎ CutsInto (NormalDerives N s) (NormalDerivesMany N s) w
  many_in s w (of_end s') = inl refl
  many_in s w (of_more s' u v d m) = inr (u, v, refl, d, m)

  many_of : (s : Sym) (w : List ℕ) → (w ≡ []) ⊎ CutsInto (NormalDerives N s) (NormalDerivesMany N s) w → NormalDerivesMany N s w
  many_of s w (inl e) = let P : List ℕ → Type 0 = λ x. NormalDerivesMany N s x in subst P (sym e) (of_end s)
  many_of s w (inr (u, v, e, d, m)) = let P : List ℕ → Type 0 = λ x. NormalDerivesMany N s x in subst P (sym e) (of_more s u v d m)

  done_in : (w : List ℕ) → NormalDerivesSeq N [] w → w ≡ []
  done_in w of_done = refl

  done_of : (w : List ℕ) → w ≡ [] → NormalDerivesSeq N [] w
  done_of w e = let P : List ℕ → Type 0 = λ x. NormalDerivesSeq N [] x in subst P (sym e) of_done

  next_of : (s : Sym) (ss : List Sym) (w : List ℕ) → CutsInto (NormalDerives N s) (NormalDerivesSeq N ss) w → NormalDerivesSeq N (s ∷ ss) w
  next_of s ss w (u, v, e, d, h) = let P : List ℕ → Type 0 = λ x. NormalDerivesSeq N (s ∷ ss) x in subst P (sym e) (of_next s ss u v d h)

  one_in : (s : Sym) (w : List ℕ) → NormalDerivesSeq N (s ∷ []) w → NormalDerives N s w
  one_in s w d =
      let (u, v, e, h, k) = all_inverse s [] d refl in
      let P : List ℕ → Type 0 = λ x. NormalDerives N s x in subst P (sym (e ∙ ap (λ x. u ++ x) (done_in v k) ∙ append-nil u)) h

  one_of : (s : Sym) (w : List ℕ) → NormalDerives N s w → NormalDerivesSeq N (s ∷ []) w
  one_of s w d = let P : List ℕ → Type 0 = λ x. NormalDerivesSeq N (s ∷ []) x in subst P (append-nil w) (of_next s [] w [] d of_done)

  append_in : (ss ts : List Sym) (w : List ℕ) → NormalDerivesSeq N (ss ++ ts) w → CutsInto (NormalDerivesSeq N ss) (NormalDerivesSeq N ts) w
  append_in [] ts w d = ([], w, refl, of_done, d)
  append_in (s ∷ ss) ts w d =
      let (u, v, e, h, k) = all_inverse s (ss ++ ts) d refl in
      let (a, b, f, p, q) = append_in ss ts v k in (u ++ a, b, e ∙ ap (λ x. u ++ x) f ∙ sym (append_assoc u a b), of_next s ss u a h p, q)

  append_of : (ss ts : List Sym) (w : List ℕ) → CutsInto (NormalDerivesSeq N ss) (NormalDerivesSeq N ts) w → NormalDerivesSeq N (ss ++ ts) w
  append_of [] ts w (u, v, e, p, q) =
      let P : List ℕ → Type 0 = λ x. NormalDerivesSeq N ts x in subst P (sym (e ∙ ap (λ x. x ++ v) (done_in u p))) q
  append_of (s ∷ ss) ts w (u, v, e, p, q) =
      let (a, b, f, h, k) = all_inverse s ss p refl in
      let P : List ℕ → Type 0 = λ x. NormalDerivesSeq N (s ∷ (ss ++ ts)) x in
      subst P (sym (e ∙ ap (λ x. x ++ v) f ∙ append_assoc a b v)) (of_next s (ss ++ ts) a (b ++ v) h (append_of ss ts (b ++ v) (b, v, refl, k, q)))

  many_append : (s : Sym) (u v : List ℕ) → NormalDerivesMany N s u → NormalDerivesMany N s v → NormalDerivesMany N s (u ++ v)
  many_append s u v (of_end s') k = k
  many_append s u v (of_more s' a b d m) k =
      let P : List ℕ → Type 0 = λ x. NormalDerivesMany N s x in subst P (sym (append_assoc a b v)) (of_more s a (b ++ v) d (many_append s b v m k))

  abbrev Numbered : List (List Sym) → List ℕ → Type 0
  Numbered alts w = (a : ℕ) × (alt : List Sym) × (slice_get alts a ≡ Some alt) × NormalDerivesSeq N alt w

  numbered_in : (alts : List (List Sym)) (w : List ℕ) → OneOf N alts w → Numbered alts w
  numbered_in alts w (alt, c, d) = let it = at_of_contains alts alt c in (it.0, alt, it.1, d)

  numbered_of : (alts : List (List Sym)) (w : List ℕ) → Numbered alts w → OneOf N alts w
  numbered_of alts w (a, alt, at, d) = (alt, contains_at alts a alt at, d)

  no_alternative : (r : ℕ) (w : List ℕ) → slice_get N.rules r ≡ Some (RuleForm.regular []) → NormalDerives N (Rule r) w → ⊥
  no_alternative r w at d = let it = regular_inverse r [] at d refl in Contains-nil it.0 it.1

pub by_form : (N : NormalForm) → NormalDerivesByForm N
by_form N =
    record {
      kind = λ k w. (kind_in N k w, kind_of N k w);
      set = λ i w. (set_in N i w, set_of N i w);
      no_rule = no_rule N;
      regular = λ r alts w at. (λ d. regular_inverse r alts at d refl, regular_of N r alts w at);
      numbered = λ r alts w at. (λ d. numbered_in N alts w (regular_inverse r alts at d refl), λ it. regular_of N r alts w at (numbered_of N alts w it));
      no_alternative = no_alternative N;
      opt = λ r s w at. (opt_in N r s w at, opt_of N r s w at);
      star = λ r s w at. (λ d. star_inverse r s at d refl, of_star r s w at);
      plus = λ r s w at. (plus_in N r s w at, plus_of N r s w at);
      many = λ s w. (many_in N s w, many_of N s w);
      many_append = many_append N;
      done = λ w. (done_in N w, done_of N w);
      one = λ s w. (one_in N s w, one_of N s w);
      next = λ s ss w. (λ d. all_inverse s ss d refl, next_of N s ss w);
      append = λ ss ts w. (append_in N ss ts w, append_of N ss ts w);
    }
