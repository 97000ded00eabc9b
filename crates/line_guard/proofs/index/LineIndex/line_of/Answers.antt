use Rattle.std.proofs.Common.{◌≡◌, ℕ, ap, ◌∙◌, arith, subst, sym, rules, leb}
use Rattle.std.proofs.lemmas.Bool.{leb-false, leb-true}
use Rattle.std.proofs.lemmas.List.Sorted.{IsNonDecreasingBy-from_default, IsPartitionPoint-from_clause, IsPartitionedBy-leb}
use Rattle.keep_guard.specs.Relation.{Rises}
use Rattle.line_guard.specs.Lines.{line_at}
use Rattle.line_guard.proofs.EndsLemmas.{at-point, in-order}
use Rattle.line_guard.proofs.index.LineIndex.line_of.Goals as goal

pub returns-clause-line : goal.returns-clause-line
returns-clause-line c =
    let ends = c.deref.result.now in
    let same : ends ≡ c.args.self.now = cc in
    let rises : Rises ends = subst Rises (sym c.deref.ensures.value) c.self.invariant in
    let ordered = IsNonDecreasingBy-from_default (λ (x : ℕ). x) ends 0 (λ i j le lt. in-order 0 ends rises i j 0 le lt) in
    let parted = IsPartitionedBy-leb (λ (x : ℕ). x) ends c.args.offset ordered in
    let point =
    IsPartitionPoint-from_clause (λ (x : ℕ). leb x c.args.offset) ends c.partition_point.result c.partition_point.ensures.partitioned parted
    (λ a r q k. search rules) in
    at-point ends c.args.offset c.partition_point.result c.partition_point.ensures.bound (λ k lt. leb-true _ _ (point.0 k 0 (omega arith) lt))
    (λ k le lt. leb-false _ _ (point.1 k 0 le lt))
    ∙ ap (λ l. line_at l c.args.offset) same
