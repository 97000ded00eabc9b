use Rattle.std.proofs.Common.{ℕ, rules, arith, ltb}
use Rattle.std.proofs.lemmas.Bool.{ltb-true, ltb-false}
use Rattle.std.proofs.lemmas.List.Sorted.{IsPartitionPoint-from_clause, IsPartitionedBy-ltb}
use Rattle.syntax_tree_cut.proofs.Splits.{in_order}
use Rattle.syntax_tree_cut.proofs.tokens.count_before.Goals as goal

pub returns : goal.returns
returns c =
    let parted = IsPartitionedBy-ltb (λ (x : ℕ). x) c.args.tokens.now c.args.bound (in_order c.args.tokens.now c.requires) in
    let point =
    IsPartitionPoint-from_clause (λ (x : ℕ). ltb x c.args.bound) c.args.tokens.now c.partition_point.result c.partition_point.ensures.partitioned parted
    (λ a r q k. search rules) in
    record {
      among = c.partition_point.ensures.bound;
      less = λ k lt. ltb-true _ _ (point.0 k 0 (omega arith) lt);
      others = λ k le lt. ltb-false _ _ (point.1 k 0 le lt);
    }
