use Rattle.std.proofs.Common.{ltb, ltb-true, ltb-false, arith, rules}
use Rattle.std.proofs.lemmas.List.Sorted.{IsPartitionPoint-from_clause, IsPartitionedBy-ltb}
use Rattle.lexer.specs.declared.piece.Piece.{Piece}
use Rattle.token_print.proofs.joins.pieces_before.Goals as goal

pub returns-clause-before : goal.returns-clause-before
returns-clause-before c =
    let parted = IsPartitionedBy-ltb (λ (p : Piece). p.start) _ c.args.offset c.requires in
    let point =
    IsPartitionPoint-from_clause (λ (p : Piece). ltb p.start c.args.offset) _ _ c.partition_point.ensures.partitioned parted (λ a r q k. search rules) in
    λ k d h. ltb-true _ _ (point.0 k d (omega arith) h)

pub returns-clause-others : goal.returns-clause-others
returns-clause-others c =
    let parted = IsPartitionedBy-ltb (λ (p : Piece). p.start) _ c.args.offset c.requires in
    let point = IsPartitionPoint-from_clause (λ (p : Piece). ltb p.start c.args.offset) _ _ c.partition_point.ensures.partitioned parted
    (λ a r q k. search rules) in
    λ k d h l. ltb-false _ _ (point.1 k d h l)
