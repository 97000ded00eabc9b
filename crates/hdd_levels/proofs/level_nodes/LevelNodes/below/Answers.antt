use Rattle.std.proofs.Common.{ℕ, List, sym, subst}
use Rattle.syntax_tree_cut.specs.Cuts.{cut_tree}
use Rattle.hdd_levels.specs.inner.LevelForms.{AreNodesIn}
use Rattle.hdd_levels.proofs.FoundNodes.{deletable_more, is_left}
use Rattle.hdd_levels.proofs.level_nodes.LevelNodes.below.Goals as goal

pub push_deletable-requires-clause-left : goal.push_deletable-requires-clause-left
push_deletable-requires-clause-left c =
    let are =
    subst (λ (l : List ℕ). AreNodesIn (cut_tree c.args.tree.now c.args.cut.now) l c.requires.parents.0)
    (sym c.deref-parent-items.ensures.value) c.requires.parents.1 in
    is_left (cut_tree c.args.tree.now c.args.cut.now) c.deref-parent-items.result.now c.requires.parents.0 are c.loop-parent.parent-index 0
    c.loop-parent-test.true

pub loop-parent-preserved : goal.loop-parent-preserved
loop-parent-preserved c = λ ts given.
    let are = subst (λ (l : List ℕ). AreNodesIn (cut_tree c.args.tree.now c.args.cut.now) l ts) (sym c.deref-parent-items.ensures.value) given in
    deletable_more (cut_tree c.args.tree.now c.args.cut.now) c.deref-parent-items.result.now ts are c.args.tree.now.form c.loop-parent.parent-index 0
    c.loop-parent-test.true c.loop-parent.nodes.items c.push_deletable.new.into.items c.loop-parent.pluses.items
    c.push_deletable.new.pluses.items (c.loop-parent.invariant ts given) c.in_ok-push_deletable.ensures.nodes c.in_ok-push_deletable.ensures.pluses
