use Rattle.std.proofs.Common.{◌+◌, ◌≤◌, ℕ, List, drop, length, refl, sym, subst}
use Rattle.syntax_tree_cut.specs.declared.tokens.Gap.{Gap}
use Rattle.syntax_tree_cut.specs.Cuts.{CutForm}
use Rattle.syntax_tree_cut.specs.WithoutNodes.{dropped}
use Rattle.syntax_tree_cut.specs.inner.Dropping.{IsDroppedSoFar}
use Rattle.syntax_tree_cut.proofs.Dropping.{dropping_begins, dropping_ends, next_is_dropped, next_is_kept, none_is_next}
use Rattle.syntax_tree_cut.proofs.cut.Cut.keep_nodes.Goals as goal
use Rattle.syntax_tree_cut.proofs.cut.Cut.keep_nodes.Goals.{then-not-keep-index, else-not-keep-index}

pub loop-index-init : goal.loop-index-init
loop-index-init c =
    dropping_begins c.args.tree.now c.tree_laws.ensures c.nodes-entries.ensures.whole c.args.self.now (dropped c.args.nodes.now c.args.keep.now)
    (record { from = 0; to = 0 }) c.requires.of c.requires.can.apart refl refl

pub drop_node-gap-requires : goal.drop_node-gap-requires
drop_node-gap-requires c = (
  c.args.self.now,
  dropped c.args.nodes.now c.args.keep.now,
  dropped (drop (c.loop-index.index + 1) c.args.nodes.now) (drop (c.loop-index.index + 1) c.args.keep.now),
  next_is_dropped c.args.tree.now c.args.self.now c.args.nodes.now c.args.keep.now c.loop-index.index c.loop-index.self c.loop-index.gap c.requires.each
      c.loop-index.invariant c.loop-index-test.true c.if-not-keep-index.true,
)

pub loop-index-preserved : goal.loop-index-preserved
loop-index-preserved c =
    let all : List ℕ = dropped c.args.nodes.now c.args.keep.now in
    let rest : List ℕ = dropped (drop (c.loop-index.index + 1) c.args.nodes.now) (drop (c.loop-index.index + 1) c.args.keep.now) in
    elim c.if-not-keep-index.branch [
      | then-not-keep-index w ↦
          let next =
          next_is_dropped c.args.tree.now c.args.self.now c.args.nodes.now c.args.keep.now c.loop-index.index c.loop-index.self c.loop-index.gap c.requires.each
          c.loop-index.invariant c.loop-index-test.true w.if-not-keep-index.true in
          subst (λ (g : Gap). IsDroppedSoFar c.args.tree.now c.args.self.now all rest c.if-not-keep-index.self g) (sym w.gap-is)
          (subst (λ (d : CutForm). IsDroppedSoFar c.args.tree.now c.args.self.now all rest d w.drop_node-gap.result) (sym w.self-is)
          (w.drop_node-gap.ensures c.args.self.now all rest next))
      | else-not-keep-index w ↦
          let next =
          next_is_kept c.args.tree.now c.args.self.now c.args.nodes.now c.args.keep.now c.loop-index.index c.loop-index.self c.loop-index.gap c.requires.each
          c.loop-index.invariant c.loop-index-test.true w.if-not-keep-index.false in
          subst (λ (g : Gap). IsDroppedSoFar c.args.tree.now c.args.self.now all rest c.if-not-keep-index.self g) (sym w.gap-is)
          (subst (λ (d : CutForm). IsDroppedSoFar c.args.tree.now c.args.self.now all rest d c.loop-index.gap) (sym w.self-is) next)
    ]

pub returns-clause-tree : goal.returns-clause-tree
returns-clause-tree c =
    let over : length c.args.nodes.now ≤ c.loop-index.index = c.loop-index-test.false in
    (dropping_ends c.args.tree.now c.tree_laws.ensures c.nodes-entries.ensures.whole c.args.self.now c.loop-index.self c.close.new.self
    (dropped c.args.nodes.now c.args.keep.now) c.loop-index.gap
    (none_is_next c.args.tree.now c.args.self.now c.args.nodes.now c.args.keep.now c.loop-index.index c.loop-index.self c.loop-index.gap c.requires.each
    c.loop-index.invariant over) c.requires.can
    c.close.ensures.marks c.close.ensures.positions c.close.ensures.kept).0

pub returns-clause-of : goal.returns-clause-of
returns-clause-of c =
    let over : length c.args.nodes.now ≤ c.loop-index.index = c.loop-index-test.false in
    (dropping_ends c.args.tree.now c.tree_laws.ensures c.nodes-entries.ensures.whole c.args.self.now c.loop-index.self
    c.close.new.self (dropped c.args.nodes.now c.args.keep.now) c.loop-index.gap
    (none_is_next c.args.tree.now c.args.self.now c.args.nodes.now c.args.keep.now c.loop-index.index c.loop-index.self c.loop-index.gap
    c.requires.each c.loop-index.invariant over) c.requires.can
    c.close.ensures.marks c.close.ensures.positions c.close.ensures.kept).1
