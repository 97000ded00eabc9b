use Rattle.std.proofs.Common.{ℕ, ltb, ltb-true, ltb-false, arith, rules}
use Rattle.std.proofs.lemmas.List.Sorted.{IsPartitionPoint-from_clause, IsPartitionedBy-ltb}
use Rattle.cert_check_texts.proofs.Lists.{not_falling}
use Rattle.cert_check_texts.proofs.line_texts.index_from.Goals as goal

pub returns-clause-before : goal.returns-clause-before
returns-clause-before c =
    let parted = IsPartitionedBy-ltb (λ (n : ℕ). n) _ c.args.from (not_falling c.args.numbers.now c.requires) in
    let point = IsPartitionPoint-from_clause (λ (n : ℕ). ltb n c.args.from) _ _ c.partition_point.ensures.partitioned parted (λ a r q k. search rules) in
    λ k h. ltb-true _ _ (point.0 k 0 (omega arith) h)

pub returns-clause-others : goal.returns-clause-others
returns-clause-others c =
    let parted = IsPartitionedBy-ltb (λ (n : ℕ). n) _ c.args.from (not_falling c.args.numbers.now c.requires) in
    let point = IsPartitionPoint-from_clause (λ (n : ℕ). ltb n c.args.from) _ _ c.partition_point.ensures.partitioned parted (λ a r q k. search rules) in
    λ k h l. ltb-false _ _ (point.1 k 0 h l)
