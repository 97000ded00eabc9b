-- The laws of spans, where the chart's steps use them.
use Rattle.std.proofs.Common.{ℕ, ◌≤◌, List, length}
use Rattle.normal_form.specs.declared.normal.Sym.{Sym}
use Rattle.normal_form.specs.Form.{NormalForm}
use Rattle.normal_form.proofs.Lent as lent
use Rattle.normal_form.specs.Spans.{DerivesSpan, DerivesSpanMany}
use Rattle.normal_form.specs.SpanLaws.{SpansAreDerived, SpansByForm, SpansJoin}

pub spans : (N : NormalForm) (K : List ℕ) → SpansByForm N K
spans N K = lent.spans_by_form N K (lent.by_form N)

pub joins : (N : NormalForm) (K : List ℕ) → SpansJoin N K
joins N K = lent.joined N K

pub lists : (N : NormalForm) (K : List ℕ) → SpansAreDerived N K
lists N K = lent.derived N K

pub many_within : {N : NormalForm} {K : List ℕ} {s : Sym} {i j : ℕ} → DerivesSpanMany N K s i j → (i ≤ j) × (j ≤ length K)
many_within {N} {K} {s} {i} {j} d = let x = ((lists N K).many s i j).0 d in (x.0, x.1)

-- A set of positions that is closed under the symbol has each position that any number of them reach.
pub closed_many : {N : NormalForm} {K : List ℕ} {s : Sym} (In : ℕ → Type 0) → ((p q : ℕ) → In p → DerivesSpan N K s p q → In q) → {i j : ℕ} → In i
    → DerivesSpanMany N K s i j → In j
closed_many In closed first (DerivesSpanMany.of_end i l) = first
closed_many In closed first (DerivesSpanMany.of_more i m j d ds) = closed_many In closed (closed i m first d) ds
