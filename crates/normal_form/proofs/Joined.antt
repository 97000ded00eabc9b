-- Spans that follow one another.
use Rattle.std.proofs.Common.{◌≡◌, ℕ, ◌≤◌, List, [], ◌∷◌, ◌++◌, length, refl, arith}
use Rattle.normal_form.specs.declared.normal.Sym.{Sym}
use Rattle.normal_form.specs.Form.{NormalForm}
use Rattle.normal_form.specs.Spans.{DerivesSpan, DerivesSpanSeq, DerivesSpanMany}
use Rattle.normal_form.specs.SpanLaws.{SpansJoin}

module _ (N : NormalForm) (kinds : List ℕ) where
  -- the first symbol, and the others
  pub next_in : {s : Sym} {ss : List Sym} {i j : ℕ} → DerivesSpanSeq N kinds (s ∷ ss) i j → (m : ℕ) × DerivesSpan N kinds s i m × DerivesSpanSeq N kinds ss m j
  next_in (DerivesSpanSeq.of_next s ss i m j d ds) = (m, d, ds)

  pub done_in : {i j : ℕ} → DerivesSpanSeq N kinds [] i j → (i ≡ j) × (j ≤ length kinds)
  done_in (DerivesSpanSeq.of_done i l) = (refl, l)

  one_in : {s : Sym} {i j : ℕ} → DerivesSpanSeq N kinds (s ∷ []) i j → DerivesSpan N kinds s i j
  one_in (DerivesSpanSeq.of_next s [] i m j d (DerivesSpanSeq.of_done m' l)) = d

  append_in : (ss ts : List Sym) {i j : ℕ} → DerivesSpanSeq N kinds (ss ++ ts) i j → i ≤ length kinds → (m : ℕ) × DerivesSpanSeq N kinds ss i m
      × DerivesSpanSeq N kinds ts m j
  append_in [] ts {i} d l = (i, DerivesSpanSeq.of_done i l, d)
  append_in (s ∷ ss) ts {i} {j} d l =
      let (n, first, others) = next_in d in
      let (m, front, back) = append_in ss ts others first.within in
      (m, DerivesSpanSeq.of_next s ss i n m first front, back)

  starts_within : {ss : List Sym} {i j : ℕ} → DerivesSpanSeq N kinds ss i j → i ≤ length kinds
  starts_within (DerivesSpanSeq.of_done i l) = l
  starts_within (DerivesSpanSeq.of_next s ss i m j d ds) = omega (arith, d.rises, d.within)

  append_of : {ss ts : List Sym} {i m j : ℕ} → DerivesSpanSeq N kinds ss i m → DerivesSpanSeq N kinds ts m j → DerivesSpanSeq N kinds (ss ++ ts) i j
  append_of (DerivesSpanSeq.of_done i l) back = back
  append_of {ts = ts} {j = j} (DerivesSpanSeq.of_next s ss i n m d ds) back = DerivesSpanSeq.of_next s (ss ++ ts) i n j d (append_of ds back)

  many_of : {s : Sym} {i m j : ℕ} → DerivesSpanMany N kinds s i m → DerivesSpanMany N kinds s m j → DerivesSpanMany N kinds s i j
  many_of (DerivesSpanMany.of_end i l) back = back
  many_of {j = j} (DerivesSpanMany.of_more i n m d ds) back = DerivesSpanMany.of_more i n j d (many_of ds back)

  once : {s : Sym} {i j : ℕ} → DerivesSpan N kinds s i j → DerivesSpanMany N kinds s i j
  once {s} {i} {j} d = DerivesSpanMany.of_more i j j d (DerivesSpanMany.of_end j d.within)

  pub joined : SpansJoin N kinds
  joined = record {
    one = λ s i j. ((λ d. one_in d), (λ d. DerivesSpanSeq.of_next s [] i j j d (DerivesSpanSeq.of_done j d.within)));
    append = λ ss ts i j. ((λ d. append_in ss ts d (starts_within d)), (λ (m, front, back). append_of front back));
    many = λ s i m j front back. many_of front back;
    one_more = λ s i m j front d. many_of front (once d);
  }
