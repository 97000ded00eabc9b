-- How the terms of parser rules derive, by their form.
use Rattle.std.proofs.Common.{◌≡◌, ◌⊎◌, inl, inr, ℕ, List, [], ◌∷◌, ◌++◌, Some, slice_get, refl, sym, subst}
use Rattle.std.specs.List.{Contains}
use Rattle.grammar_tree.specs.Derives.{Term, Seq, Alts, Derives, DerivesMany, DerivesSeq, DerivesAlts}
use Rattle.grammar_tree.specs.Laws.{CutsInto, DerivesByForm}

module _ {G : List Alts} where
  kind_in : (k : ℕ) (w : List ℕ) → Derives G (Term.kind k) w → w ≡ k ∷ []
  kind_in k w (Derives.by_kind k') = refl

  kind_of : (k : ℕ) (w : List ℕ) → w ≡ k ∷ [] → Derives G (Term.kind k) w
  kind_of k w e = let P : List ℕ → Type 0 = λ x. Derives G (Term.kind k) x in subst P (sym e) (Derives.by_kind k)

  among_in : (ks w : List ℕ) → Derives G (Term.among ks) w → (k : ℕ) × (w ≡ k ∷ []) × Contains ks k
  among_in ks w (Derives.by_among ks' k h) = (k, refl, h)

  among_of : (ks w : List ℕ) → (k : ℕ) × (w ≡ k ∷ []) × Contains ks k → Derives G (Term.among ks) w
  among_of ks w (k, e, h) = let P : List ℕ → Type 0 = λ x. Derives G (Term.among ks) x in subst P (sym e) (Derives.by_among ks k h)

  rule_in : (r : ℕ) (w : List ℕ) → Derives G (Term.rule r) w → (a : Alts) × (slice_get G r ≡ Some a) × DerivesAlts G a w
  rule_in r w (Derives.by_rule r' a w' at d) = (a, at, d)

  rule_of : (r : ℕ) (w : List ℕ) → (a : Alts) × (slice_get G r ≡ Some a) × DerivesAlts G a w → Derives G (Term.rule r) w
  rule_of r w (a, at, d) = Derives.by_rule r a w at d

  block_in : (a : Alts) (w : List ℕ) → Derives G (Term.block a) w → DerivesAlts G a w
  block_in a w (Derives.by_block a' w' d) = d

  opt_in : (t : Term) (w : List ℕ) → Derives G (Term.opt t) w → (w ≡ []) ⊎ Derives G t w
  opt_in t w (Derives.by_absent t') = inl refl
  opt_in t w (Derives.by_present t' w' d) = inr d

  opt_of : (t : Term) (w : List ℕ) → (w ≡ []) ⊎ Derives G t w → Derives G (Term.opt t) w
  opt_of t w (inl e) = let P : List ℕ → Type 0 = λ x. Derives G (Term.opt t) x in subst P (sym e) (Derives.by_absent t)
  opt_of t w (inr d) = Derives.by_present t w d

  many_in : (t : Term) (w : List ℕ) → DerivesMany G t w → (w ≡ []) ⊎ CutsInto (Derives G t) (Derives G (Term.star t)) w
  many_in t w (DerivesMany.by_end t') = inl refl
  many_in t w (DerivesMany.by_more t' u v d more) = inr (u, v, refl, d, Derives.by_star t v more)

  star_in : (t : Term) (w : List ℕ) → Derives G (Term.star t) w → (w ≡ []) ⊎ CutsInto (Derives G t) (Derives G (Term.star t)) w
  star_in t w (Derives.by_star t' w' m) = many_in t w m

  many_of : (t : Term) (w : List ℕ) → Derives G (Term.star t) w → DerivesMany G t w
  many_of t w (Derives.by_star t' w' m) = m

  star_of : (t : Term) (w : List ℕ) → (w ≡ []) ⊎ CutsInto (Derives G t) (Derives G (Term.star t)) w → Derives G (Term.star t) w
  star_of t w (inl e) = let P : List ℕ → Type 0 = λ x. Derives G (Term.star t) x in subst P (sym e) (Derives.by_star t [] (DerivesMany.by_end t))
  star_of t w (inr (u, v, e, d, more)) =
      let P : List ℕ → Type 0 = λ x. Derives G (Term.star t) x in
      subst P (sym e) (Derives.by_star t (u ++ v) (DerivesMany.by_more t u v d (many_of t v more)))

  plus_in : (t : Term) (w : List ℕ) → Derives G (Term.plus t) w → CutsInto (Derives G t) (Derives G (Term.star t)) w
  plus_in t w (Derives.by_plus t' u v d more) = (u, v, refl, d, Derives.by_star t v more)

  plus_of : (t : Term) (w : List ℕ) → CutsInto (Derives G t) (Derives G (Term.star t)) w → Derives G (Term.plus t) w
  plus_of t w (u, v, e, d, more) =
      let P : List ℕ → Type 0 = λ x. Derives G (Term.plus t) x in
      subst P (sym e) (Derives.by_plus t u v d (many_of t v more))

  eof_in : (w : List ℕ) → Derives G Term.eof w → w ≡ []
  eof_in w Derives.by_eof = refl

  eof_of : (w : List ℕ) → w ≡ [] → Derives G Term.eof w
  eof_of w e = let P : List ℕ → Type 0 = λ x. Derives G Term.eof x in subst P (sym e) Derives.by_eof

  done_in : (w : List ℕ) → DerivesSeq G Seq.done w → w ≡ []
  done_in w DerivesSeq.by_done = refl

  done_of : (w : List ℕ) → w ≡ [] → DerivesSeq G Seq.done w
  done_of w e = let P : List ℕ → Type 0 = λ x. DerivesSeq G Seq.done x in subst P (sym e) DerivesSeq.by_done

  next_in : (t : Term) (s : Seq) (w : List ℕ) → DerivesSeq G (Seq.next t s) w → CutsInto (Derives G t) (DerivesSeq G s) w
  next_in t s w (DerivesSeq.by_next t' s' u v d more) = (u, v, refl, d, more)

  next_of : (t : Term) (s : Seq) (w : List ℕ) → CutsInto (Derives G t) (DerivesSeq G s) w → DerivesSeq G (Seq.next t s) w
  next_of t s w (u, v, e, d, more) =
      let P : List ℕ → Type 0 = λ x. DerivesSeq G (Seq.next t s) x in subst P (sym e) (DerivesSeq.by_next t s u v d more)

  none_in : (a : Alts) (w : List ℕ) → DerivesAlts G a w → a ≡ Alts.none → ⊥
  none_in a w (DerivesAlts.by_first s b w' d) e = absurd cc
  none_in a w (DerivesAlts.by_later s b w' d) e = absurd cc

  or_in : (s : Seq) (a : Alts) (w : List ℕ) → DerivesAlts G (Alts.or s a) w → DerivesSeq G s w ⊎ DerivesAlts G a w
  or_in s a w (DerivesAlts.by_first s' a' w' d) = inl d
  or_in s a w (DerivesAlts.by_later s' a' w' d) = inr d

  or_of : (s : Seq) (a : Alts) (w : List ℕ) → DerivesSeq G s w ⊎ DerivesAlts G a w → DerivesAlts G (Alts.or s a) w
  or_of s a w (inl d) = DerivesAlts.by_first s a w d
  or_of s a w (inr d) = DerivesAlts.by_later s a w d

pub by_form : (G : List Alts) → DerivesByForm G
by_form G =
    record {
      kind = λ k w. (kind_in k w, kind_of k w);
      among = λ ks w. (among_in ks w, among_of ks w);
      rule = λ r w. (rule_in r w, rule_of r w);
      block = λ a w. (block_in a w, Derives.by_block a w);
      opt = λ t w. (opt_in t w, opt_of t w);
      star = λ t w. (star_in t w, star_of t w);
      plus = λ t w. (plus_in t w, plus_of t w);
      eof = λ w. (eof_in w, eof_of w);
      done = λ w. (done_in w, done_of w);
      next = λ t s w. (next_in t s w, next_of t s w);
      none = λ w d. none_in Alts.none w d refl;
      or = λ s a w. (or_in s a w, or_of s a w);
    }
