-- Which terms of parser rules may be empty, and which rules may be first in them, by tests.
use Rattle.std.proofs.Common.{◌≡◌, inl, inr, ℕ, zero, suc, ◌<◌, Bool, true, false, ◌&&◌, ◌||◌, not, nat_lt, List, []}
use Rattle.std.proofs.Common.{◌∷◌, Some, slice_get, refl, sym, ap, ◌∙◌, subst, true≢false}
use Rattle.std.proofs.lemmas.Bool.{and_parts, and_from, ltb-true}
use Rattle.grammar_tree.specs.Derives.{Alts, Seq, Term, Derives, DerivesAlts, DerivesSeq}
use Rattle.grammar_tree.specs.Corners.{Begins, BeginsAlts, BeginsSeq, HasEmptyLoop, HasEmptyLoopAlts, HasEmptyLoopSeq, bases, rests}
use Rattle.case_reduction.proofs.Tests.{not_both, or_later}

abbrev flag_at : List Bool → ℕ → Bool
flag_at [] r = true
flag_at (e ∷ es) zero = e
flag_at (e ∷ es) (suc r) = flag_at es r

-- The flags say which rules may be empty.
abbrev mutual
  pub may_empty : List Bool → Term → Bool
  may_empty E (Term.kind k) = false
  may_empty E (Term.among ks) = false
  may_empty E (Term.rule r) = flag_at E r
  may_empty E (Term.block a) = may_empty_alts E a
  may_empty E (Term.opt t) = true
  may_empty E (Term.star t) = true
  may_empty E (Term.plus t) = may_empty E t
  may_empty E Term.eof = true

  pub may_empty_seq : List Bool → Seq → Bool
  may_empty_seq E Seq.done = true
  may_empty_seq E (Seq.next t s) = may_empty E t && may_empty_seq E s

  pub may_empty_alts : List Bool → Alts → Bool
  may_empty_alts E Alts.none = false
  may_empty_alts E (Alts.or s a) = may_empty_seq E s || may_empty_alts E a

abbrev pub implies : Bool → Bool → Bool
implies true b = b
implies false b = true

abbrev pub flags_hold : List Bool → List Bool → List Alts → Bool
flags_hold E es [] = true
flags_hold E [] (a ∷ G) = true
flags_hold E (e ∷ es) (a ∷ G) = implies (may_empty_alts E a) e && flags_hold E es G

pub implied : (b e : Bool) → implies b e ≡ true → b ≡ true → e ≡ true
implied true e h f = h
implied false e h f = absurd (true≢false (sym f))

flag_of : (E es : List Bool) (G : List Alts) (r : ℕ) (a : Alts) → flags_hold E es G ≡ true → slice_get G r ≡ Some a → may_empty_alts E a ≡ true
    → flag_at es r ≡ true
flag_of E es [] r a h is m = cc is
flag_of E [] (b ∷ G) r a h is m = refl
flag_of E (e ∷ es) (b ∷ G) zero a h is m =
    let same : a ≡ b = cc in
    implied (may_empty_alts E b) e (and_parts (implies (may_empty_alts E b) e) (flags_hold E es G) h).0 (ap (may_empty_alts E) (sym same) ∙ m)
flag_of E (e ∷ es) (b ∷ G) (suc r) a h is m = flag_of E es G r a (and_parts (implies (may_empty_alts E b) e) (flags_hold E es G) h).1 is m

module _ (E : List Bool) (G : List Alts) (holds : flags_hold E E G ≡ true) where
  mutual
    pub empty_term : (t : Term) (w : List ℕ) → Derives G t w → w ≡ [] → may_empty E t ≡ true
    empty_term _ _ (Derives.by_kind k) e = cc e
    empty_term _ _ (Derives.by_among ks k c) e = cc e
    empty_term _ _ (Derives.by_rule r a w is m) e = flag_of E E G r a holds is (empty_alts a w m e)
    empty_term _ _ (Derives.by_block a w m) e = empty_alts a w m e
    empty_term _ _ (Derives.by_absent t) e = refl
    empty_term _ _ (Derives.by_present t w m) e = refl
    empty_term _ _ (Derives.by_star t w m) e = refl
    empty_term _ _ (Derives.by_plus t [] v m n) e = empty_term t [] m refl
    empty_term _ _ (Derives.by_plus t (k ∷ u) v m n) e = cc e
    empty_term _ _ Derives.by_eof e = refl

    empty_sequence : (s : Seq) (w : List ℕ) → DerivesSeq G s w → w ≡ [] → may_empty_seq E s ≡ true
    empty_sequence _ _ DerivesSeq.by_done e = refl
    empty_sequence _ _ (DerivesSeq.by_next t s [] v m n) e = and_from (may_empty E t) (may_empty_seq E s) (empty_term t [] m refl) (empty_sequence s v n e)
    empty_sequence _ _ (DerivesSeq.by_next t s (k ∷ u) v m n) e = cc e

    pub empty_alts : (a : Alts) (w : List ℕ) → DerivesAlts G a w → w ≡ [] → may_empty_alts E a ≡ true
    empty_alts _ _ (DerivesAlts.by_first s a w m) e = ap (λ b. b || may_empty_alts E a) (empty_sequence s w m e)
    empty_alts _ _ (DerivesAlts.by_later s a w m) e = or_later (may_empty_seq E s) (may_empty_alts E a) (empty_alts a w m e)

-- no loop is over a term that may be empty
abbrev mutual
  loops_fill : List Bool → Term → Bool
  loops_fill E (Term.kind k) = true
  loops_fill E (Term.among ks) = true
  loops_fill E (Term.rule r) = true
  loops_fill E (Term.block a) = loops_fill_alts E a
  loops_fill E (Term.opt t) = loops_fill E t
  loops_fill E (Term.star t) = not (may_empty E t) && loops_fill E t
  loops_fill E (Term.plus t) = not (may_empty E t) && loops_fill E t
  loops_fill E Term.eof = true

  loops_fill_seq : List Bool → Seq → Bool
  loops_fill_seq E Seq.done = true
  loops_fill_seq E (Seq.next t s) = loops_fill E t && loops_fill_seq E s

  pub loops_fill_alts : List Bool → Alts → Bool
  loops_fill_alts E Alts.none = true
  loops_fill_alts E (Alts.or s a) = loops_fill_seq E s && loops_fill_alts E a

module _ (E : List Bool) (G : List Alts) (holds : flags_hold E E G ≡ true) where
  mutual
    no_loop : (t : Term) → loops_fill E t ≡ true → HasEmptyLoop G t → ⊥
    no_loop (Term.kind k) h l = absurd l
    no_loop (Term.among ks) h l = absurd l
    no_loop (Term.rule r) h l = absurd l
    no_loop (Term.block a) h l = no_loop_alts a h l
    no_loop (Term.opt t) h l = no_loop t h l
    no_loop (Term.star t) h (inl m) = not_both (may_empty E t) (and_parts (not (may_empty E t)) (loops_fill E t) h).0 (empty_term E G holds t [] m refl)
    no_loop (Term.star t) h (inr l) = no_loop t (and_parts (not (may_empty E t)) (loops_fill E t) h).1 l
    no_loop (Term.plus t) h (inl m) = not_both (may_empty E t) (and_parts (not (may_empty E t)) (loops_fill E t) h).0 (empty_term E G holds t [] m refl)
    no_loop (Term.plus t) h (inr l) = no_loop t (and_parts (not (may_empty E t)) (loops_fill E t) h).1 l
    no_loop Term.eof h l = absurd l

    no_loop_seq : (s : Seq) → loops_fill_seq E s ≡ true → HasEmptyLoopSeq G s → ⊥
    no_loop_seq Seq.done h l = absurd l
    no_loop_seq (Seq.next t s) h (inl l) = no_loop t (and_parts (loops_fill E t) (loops_fill_seq E s) h).0 l
    no_loop_seq (Seq.next t s) h (inr l) = no_loop_seq s (and_parts (loops_fill E t) (loops_fill_seq E s) h).1 l

    pub no_loop_alts : (a : Alts) → loops_fill_alts E a ≡ true → HasEmptyLoopAlts G a → ⊥
    no_loop_alts Alts.none h l = absurd l
    no_loop_alts (Alts.or s a) h (inl l) = no_loop_seq s (and_parts (loops_fill_seq E s) (loops_fill_alts E a) h).0 l
    no_loop_alts (Alts.or s a) h (inr l) = no_loop_alts a (and_parts (loops_fill_seq E s) (loops_fill_alts E a) h).1 l

-- each rule that may be first has a rank below this one
abbrev mutual
  first_below : List Bool → (ℕ → ℕ) → ℕ → Term → Bool
  first_below E rank n (Term.kind k) = true
  first_below E rank n (Term.among ks) = true
  first_below E rank n (Term.rule r) = nat_lt (rank r) n
  first_below E rank n (Term.block a) = first_below_alts E rank n a
  first_below E rank n (Term.opt t) = first_below E rank n t
  first_below E rank n (Term.star t) = first_below E rank n t
  first_below E rank n (Term.plus t) = first_below E rank n t
  first_below E rank n Term.eof = true

  first_below_seq : List Bool → (ℕ → ℕ) → ℕ → Seq → Bool
  first_below_seq E rank n Seq.done = true
  first_below_seq E rank n (Seq.next t s) = first_below E rank n t && implies (may_empty E t) (first_below_seq E rank n s)

  pub first_below_alts : List Bool → (ℕ → ℕ) → ℕ → Alts → Bool
  first_below_alts E rank n Alts.none = true
  first_below_alts E rank n (Alts.or s a) = first_below_seq E rank n s && first_below_alts E rank n a

module _ (E : List Bool) (G : List Alts) (holds : flags_hold E E G ≡ true) (rank : ℕ → ℕ) (n q : ℕ) where
  mutual
    below : (t : Term) → first_below E rank n t ≡ true → Begins G q t → rank q < n
    below (Term.kind k) h b = absurd b
    below (Term.among ks) h b = absurd b
    below (Term.rule r) h b = subst (λ x. rank x < n) (sym b) (ltb-true (rank r) n h)
    below (Term.block a) h b = below_alts a h b
    below (Term.opt t) h b = below t h b
    below (Term.star t) h b = below t h b
    below (Term.plus t) h b = below t h b
    below Term.eof h b = absurd b

    below_seq : (s : Seq) → first_below_seq E rank n s ≡ true → BeginsSeq G q s → rank q < n
    below_seq Seq.done h b = absurd b
    below_seq (Seq.next t s) h (inl b) = below t (and_parts (first_below E rank n t) (implies (may_empty E t) (first_below_seq E rank n s)) h).0 b
    below_seq (Seq.next t s) h (inr (m, b)) =
        below_seq s (implied (may_empty E t) (first_below_seq E rank n s)
        (and_parts (first_below E rank n t) (implies (may_empty E t) (first_below_seq E rank n s)) h).1 (empty_term E G holds t [] m refl)) b

    pub below_alts : (a : Alts) → first_below_alts E rank n a ≡ true → BeginsAlts G q a → rank q < n
    below_alts Alts.none h b = absurd b
    below_alts (Alts.or s a) h (inl b) = below_seq s (and_parts (first_below_seq E rank n s) (first_below_alts E rank n a) h).0 b
    below_alts (Alts.or s a) h (inr b) = below_alts a (and_parts (first_below_seq E rank n s) (first_below_alts E rank n a) h).1 b

abbrev pub some_alts : Alts → Bool
some_alts Alts.none = false
some_alts (Alts.or s a) = true

-- What a rule needs: some base, loops that fill, no rest that may be empty, bases that may not be empty where there is a rest, and left corners of lower rank.
abbrev pub rule_fits : List Bool → (ℕ → ℕ) → ℕ → Alts → Bool
rule_fits E rank r a =
    some_alts (bases r a) && (loops_fill_alts E a &&
    (not (may_empty_alts E (rests r a)) && (first_below_alts E rank (rank r) (bases r a) && implies (may_empty_alts E (bases r a))
    (first_below_alts E rank (rank r) (rests r a)))))

abbrev pub rules_fit : List Bool → (ℕ → ℕ) → ℕ → List Alts → Bool
rules_fit E rank r [] = true
rules_fit E rank r (a ∷ G) = rule_fits E rank r a && rules_fit E rank (suc r) G
