-- A directly recursive rule derives a base, then rests.
use Rattle.std.proofs.Common.{◌≡◌, ◌⊎◌, inl, inr, ℕ, Bool, true, false, nat_eq, cond, List, [], ◌++◌, Option, Some, None, slice_get, refl, sym, ap, ◌∙◌, subst}
use Rattle.std.proofs.lemmas.Bool.Decides.{Decides-eqb}
use Rattle.std.proofs.lemmas.List.{append_assoc, append-nil}
use Rattle.std.proofs.lemmas.Option.{none-some, same_Some}
use Rattle.grammar_tree.specs.Derives.{Term, Seq, Alts, Derives, DerivesMany, DerivesSeq, DerivesAlts}
use Rattle.grammar_tree.specs.Corners.{and_base, and_rest, bases, rest_of, rests}
use Rattle.grammar_tree.specs.Laws.{BaseThenRests, CutsInto}
use Rattle.grammar_tree.proofs.DeriveForms.{by_form}

-- what an alternative with a rest looks like
pub leads : (r : ℕ) (s rest : Seq) → rest_of r s ≡ Some rest → s ≡ Seq.next (Term.rule r) rest
leads r (Seq.next (Term.rule q) more) rest e = step (nat_eq q r) refl e
  where
    step : (b : Bool) → nat_eq q r ≡ b → cond b (Some more) None ≡ Some rest → Seq.next (Term.rule q) more ≡ Seq.next (Term.rule r) rest
    step true h d = let same : q ≡ r = (Decides-eqb q r).0 h in let tails : more ≡ rest = same_Some more rest d in cc
    step false h d = absurd (none-some rest d)
leads r _ rest e = absurd (none-some rest e)

module _ (G : List Alts) (r : ℕ) (a : Alts) (at : slice_get G r ≡ Some a) where
  abbrev Rests : Term
  Rests = Term.star (Term.block (rests r a))

  -- a base is an alternative
  base_step : (s : Seq) (b : Alts) (o : Option Seq) (w : List ℕ) → (DerivesAlts G (bases r b) w → DerivesAlts G b w)
      → DerivesAlts G (and_base s o (bases r b)) w → DerivesAlts G (Alts.or s b) w
  base_step s b None w more (DerivesAlts.by_first s' b' w' d) = DerivesAlts.by_first s b w d
  base_step s b None w more (DerivesAlts.by_later s' b' w' d) = DerivesAlts.by_later s b w (more d)
  base_step s b (Some rest) w more d = DerivesAlts.by_later s b w (more d)

  base_in : (b : Alts) (w : List ℕ) → DerivesAlts G (bases r b) w → DerivesAlts G b w
  base_in Alts.none w d = d
  base_in (Alts.or s b) w d = base_step s b (rest_of r s) w (base_in b w) d

  -- the rule followed by a rest is an alternative
  rest_step : (s : Seq) (b : Alts) (u v : List ℕ) (o : Option Seq) → rest_of r s ≡ o → Derives G (Term.rule r) u
      → (DerivesAlts G (rests r b) v → DerivesAlts G b (u ++ v)) →
      DerivesAlts G (and_rest o (rests r b)) v → DerivesAlts G (Alts.or s b) (u ++ v)
  rest_step s b u v None e d more m = DerivesAlts.by_later s b (u ++ v) (more m)
  rest_step s b u v (Some rest) e d more (DerivesAlts.by_later s' b' w' m) = DerivesAlts.by_later s b (u ++ v) (more m)
  rest_step s b u v (Some rest) e d more (DerivesAlts.by_first s' b' w' m) =
      let P : Seq → Type 0 = λ x. DerivesSeq G x (u ++ v) in
      DerivesAlts.by_first s b (u ++ v) (subst P (sym (leads r s rest e)) (DerivesSeq.by_next (Term.rule r) rest u v d m))

  rest_in : (b : Alts) (u v : List ℕ) → Derives G (Term.rule r) u → DerivesAlts G (rests r b) v → DerivesAlts G b (u ++ v)
  rest_in Alts.none u v d m = absurd ((by_form G).none v m)
  rest_in (Alts.or s b) u v d m = rest_step s b u v (rest_of r s) refl d (rest_in b u v d) m

  grows : (u v : List ℕ) → Derives G (Term.rule r) u → DerivesMany G (Term.block (rests r a)) v → Derives G (Term.rule r) (u ++ v)
  grows u v d (DerivesMany.by_end t) = let P : List ℕ → Type 0 = λ x. Derives G (Term.rule r) x in subst P (sym (append-nil u)) d
  grows u v d (DerivesMany.by_more t x y m more) =
      let P : List ℕ → Type 0 = λ z. Derives G (Term.rule r) z in
      subst P (append_assoc u x y) (grows (u ++ x) y (Derives.by_rule r a (u ++ x) at (rest_in a u x d (((by_form G).block (rests r a) x).0 m))) more)

  many_of : {t : Term} {v : List ℕ} → Derives G (Term.star t) v → DerivesMany G t v
  many_of (Derives.by_star t v m) = m

  back : (w : List ℕ) → CutsInto (DerivesAlts G (bases r a)) (Derives G Rests) w → Derives G (Term.rule r) w
  back w (u, v, e, d, m) =
      let P : List ℕ → Type 0 = λ z. Derives G (Term.rule r) z in
      subst P (sym e) (grows u v (Derives.by_rule r a u at (base_in a u d)) (many_of m))

  -- one more rest at the end
  longer : (t : Term) (u v : List ℕ) → DerivesMany G t u → Derives G t v → DerivesMany G t (u ++ v)
  longer t u v (DerivesMany.by_end t') d = let P : List ℕ → Type 0 =
      λ x. DerivesMany G t x in subst P (append-nil v) (DerivesMany.by_more t v [] d (DerivesMany.by_end t))
  longer t u v (DerivesMany.by_more t' x y m more) d =
      let P : List ℕ → Type 0 = λ z. DerivesMany G t z in
      subst P (sym (append_assoc x y v)) (DerivesMany.by_more t x (y ++ v) m (longer t y v more d))

  abbrev Cuts : List ℕ → Type 0
  Cuts w = CutsInto (DerivesAlts G (bases r a)) (Derives G Rests) w

  -- what an alternative derives, with a base or with a rest behind the rule
  abbrev Splits : Alts → Alts → List ℕ → Type 0
  Splits base rest w = DerivesAlts G base w ⊎ CutsInto Cuts (DerivesAlts G rest) w

  first_splits : (s : Seq) (b : Alts) (w : List ℕ) (o : Option Seq) → rest_of r s ≡ o → DerivesSeq G s w
      → ((rest : Seq) → rest_of r s ≡ Some rest → CutsInto Cuts (DerivesSeq G rest) w) →
      Splits (and_base s o (bases r b)) (and_rest o (rests r b)) w
  first_splits s b w None e d cut = inl (DerivesAlts.by_first s (bases r b) w d)
  first_splits s b w (Some rest) e d cut =
      let it = cut rest e in inr (it.0, it.1, it.2, it.3, DerivesAlts.by_first rest (rests r b) it.1 it.4)

  later_splits : (s : Seq) (b : Alts) (w : List ℕ) (o : Option Seq) → Splits (bases r b) (rests r b) w
      → Splits (and_base s o (bases r b)) (and_rest o (rests r b)) w
  later_splits s b w None (inl d) = inl (DerivesAlts.by_later s (bases r b) w d)
  later_splits s b w None (inr d) = inr d
  later_splits s b w (Some rest) (inl d) = inl d
  later_splits s b w (Some rest) (inr (u, v, e, c, d)) = inr (u, v, e, c, DerivesAlts.by_later rest (rests r b) v d)

  joined : (w : List ℕ) → Splits (bases r a) (rests r a) w → Cuts w
  joined w (inl d) = (w, [], sym (append-nil w), d, Derives.by_star (Term.block (rests r a)) [] (DerivesMany.by_end (Term.block (rests r a))))
  joined w (inr (u, v, e, (x, y, f, base, star), d)) =
      let t = Term.block (rests r a) in
      let one = Derives.by_block (rests r a) v d in
      (x, y ++ v, e ∙ ap (λ z. z ++ v) f ∙ append_assoc x y v, base, Derives.by_star t (y ++ v) (longer t y v (many_of star) one))

  mutual
    there : {t : Term} {w : List ℕ} → Derives G t w → t ≡ Term.rule r → Cuts w
    there (Derives.by_rule q b w at' d) e =
        let number : q ≡ r = cc in
        let same : b ≡ a = same_Some b a (sym at' ∙ ap (slice_get G) number ∙ at) in
        let P : Alts → Type 0 = λ x. Splits (bases r x) (rests r x) w in
        joined w (subst P same (there_alts d))
    there (Derives.by_kind k) e = absurd cc
    there (Derives.by_among ks k h) e = absurd cc
    there (Derives.by_block b w d) e = absurd cc
    there (Derives.by_absent t) e = absurd cc
    there (Derives.by_present t w d) e = absurd cc
    there (Derives.by_star t w d) e = absurd cc
    there (Derives.by_plus t u v d m) e = absurd cc
    there Derives.by_eof e = absurd cc

    there_seq : {s : Seq} {w : List ℕ} → DerivesSeq G s w → (rest : Seq) → rest_of r s ≡ Some rest → CutsInto Cuts (DerivesSeq G rest) w
    there_seq DerivesSeq.by_done rest e = absurd (none-some rest e)
    there_seq (DerivesSeq.by_next t s u v d m) rest e =
        let is = leads r (Seq.next t s) rest e in
        let head : t ≡ Term.rule r = cc in
        let tail : s ≡ rest = cc in
        let P : Seq → Type 0 = λ x. DerivesSeq G x v in
        (u, v, refl, there d head, subst P tail m)

    there_alts : {b : Alts} {w : List ℕ} → DerivesAlts G b w → Splits (bases r b) (rests r b) w
    there_alts (DerivesAlts.by_first s b w d) = first_splits s b w (rest_of r s) refl d (there_seq d)
    there_alts (DerivesAlts.by_later s b w d) = later_splits s b w (rest_of r s) (there_alts d)

pub base_then_rests : BaseThenRests
base_then_rests G r a w at = (λ d. there G r a at d refl, back G r a at w)
