-- Deriving a span is deriving the list of its kinds.
use Rattle.std.proofs.Common.{◌≡◌, ℕ, ◌≤◌, List, [], ◌∷◌, length, refl, sym, ◌∙◌, subst, arith}
use Rattle.std.specs.List.{between}
use Rattle.std.proofs.lemmas.List.{take_all}
use Rattle.std.proofs.lemmas.List.Edits.{between_none}
use Rattle.std.proofs.lemmas.Slice.{between_from_start}
use Rattle.normal_form.specs.declared.normal.Sym.{Sym}
use Rattle.normal_form.specs.Form.{NormalForm}
use Rattle.normal_form.specs.NormalDerives.{NormalDerives, NormalDerivesSeq, NormalDerivesMany}
use Rattle.normal_form.specs.Spans.{DerivesSpanSeq, DerivesSpanMany}
use Rattle.normal_form.specs.SpanLaws.{IsSpan, SpansAreDerived}
use Rattle.normal_form.proofs.Cuts.{between_append, cut, none_between}

module _ (N : NormalForm) (kinds : List ℕ) where
  pub seq_in : {ss : List Sym} {i j : ℕ} → DerivesSpanSeq N kinds ss i j → IsSpan kinds i j (NormalDerivesSeq N ss)
  seq_in (DerivesSpanSeq.of_done i l) = (omega arith, l, subst (NormalDerivesSeq N []) (sym (between_none kinds i)) NormalDerivesSeq.of_done)
  seq_in (DerivesSpanSeq.of_next s ss i m j d ds) =
      let rest = seq_in ds in (
        omega (arith, d.rises, rest.0),
        rest.1,
        subst (NormalDerivesSeq N (s ∷ ss)) (between_append kinds i m j d.rises rest.0)
            (NormalDerivesSeq.of_next s ss (between i m kinds) (between m j kinds) d.derived rest.2),
      )

  seq_of : {ss : List Sym} {w : List ℕ} → NormalDerivesSeq N ss w → (i j : ℕ) → i ≤ j → j ≤ length kinds → between i j kinds ≡ w → DerivesSpanSeq N kinds ss i j
  seq_of NormalDerivesSeq.of_done i j h within e =
      subst (DerivesSpanSeq N kinds [] i) (none_between kinds i j h within e) (DerivesSpanSeq.of_done i (omega (arith, h, within)))
  seq_of (NormalDerivesSeq.of_next s ss u v d ds) i j h within e =
      let (m, c) = cut kinds u v i j h within e in
      DerivesSpanSeq.of_next s ss i m j
      (record { rises = c.after; within = omega (arith, c.before, within); derived = subst (NormalDerives N s) (sym c.first) d })
      (seq_of ds m j c.before within c.second)

  pub many_in : {s : Sym} {i j : ℕ} → DerivesSpanMany N kinds s i j → IsSpan kinds i j (NormalDerivesMany N s)
  many_in {s = s} (DerivesSpanMany.of_end i l) = (omega arith, l, subst (NormalDerivesMany N s) (sym (between_none kinds i)) (NormalDerivesMany.of_end s))
  many_in {s = s} (DerivesSpanMany.of_more i m j d ds) =
      let rest = many_in ds in (
        omega (arith, d.rises, rest.0),
        rest.1,
        subst (NormalDerivesMany N s) (between_append kinds i m j d.rises rest.0)
            (NormalDerivesMany.of_more s (between i m kinds) (between m j kinds) d.derived rest.2),
      )

  many_of : {s : Sym} {w : List ℕ} → NormalDerivesMany N s w → (i j : ℕ) → i ≤ j → j ≤ length kinds → between i j kinds ≡ w → DerivesSpanMany N kinds s i j
  many_of (NormalDerivesMany.of_end s) i j h within e =
      subst (DerivesSpanMany N kinds s i) (none_between kinds i j h within e) (DerivesSpanMany.of_end i (omega (arith, h, within)))
  many_of (NormalDerivesMany.of_more s u v d ds) i j h within e =
      let (m, c) = cut kinds u v i j h within e in
      DerivesSpanMany.of_more i m j
      (record { rises = c.after; within = omega (arith, c.before, within); derived = subst (NormalDerives N s) (sym c.first) d })
      (many_of ds m j c.before within c.second)

  whole_list : between 0 (length kinds) kinds ≡ kinds
  whole_list = between_from_start kinds (length kinds) ∙ take_all (length kinds) kinds (omega arith)

  pub derived : SpansAreDerived N kinds
  derived = record {
    one = λ s i j. ((λ d. (d.rises, d.within, d.derived)), (λ d. record { rises = d.0; within = d.1; derived = d.2 }));
    seq = λ ss i j. ((λ d. seq_in d), (λ d. seq_of d.2 i j d.0 d.1 refl));
    many = λ s i j. ((λ d. many_in d), (λ d. many_of d.2 i j d.0 d.1 refl));
    whole =
        λ s. (
          (λ d. subst (NormalDerives N s) whole_list d.derived),
          (λ d. record { rises = omega arith; within = omega arith; derived = subst (NormalDerives N s) (sym whole_list) d }),
        );
  }
