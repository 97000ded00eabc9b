use Rattle.std.proofs.Common.{◌∙◌, refl}
use Rattle.syntax_tree.specs.Numbered.{subtree}
use Rattle.syntax_tree_cut.specs.Cuts.{cut_tree}
use Rattle.syntax_tree_cut.proofs.Lent.{some_of}
use Rattle.descend_replace.proofs.Lent.{children_are, cut_rises}
use Rattle.reduce_perses.proofs.WaitingLemmas.{child_left, child_waits, children_wait}
use Rattle.reduce_perses.proofs.waiting.queue_children.Goals as goal

pub loop-child-init : goal.loop-child-init
loop-child-init c = λ u e. refl

pub push_if_waiting-requires-clause-left : goal.push_if_waiting-requires-clause-left
push_if_waiting-requires-clause-left c =
    let it = some_of (subtree c.args.node (cut_tree c.args.tree.now c.args.cut.now)) c.requires.left in
    child_left (cut_tree c.args.tree.now c.args.cut.now)
    (cut_rises c.args.tree.now c.nodes-nodes.ensures.whole c.args.cut.now c.requires.of) c.args.node it.0 it.1 c.deref-child-items.result.now
    (c.deref-child-items.ensures.value ∙ children_are
    (subtree c.args.node (cut_tree c.args.tree.now c.args.cut.now)) c.in_ok-children.children.items it.0 c.in_ok-children.ensures it.1)
    c.loop-child.child-index 0 c.loop-child-test.true

pub loop-child-preserved : goal.loop-child-preserved
loop-child-preserved c = λ u e.
    child_waits (cut_tree c.args.tree.now c.args.cut.now)
    (cut_rises c.args.tree.now c.nodes-nodes.ensures.whole c.args.cut.now c.requires.of) c.args.node u e c.deref-child-items.result.now
    (c.deref-child-items.ensures.value ∙ children_are
    (subtree c.args.node (cut_tree c.args.tree.now c.args.cut.now)) c.in_ok-children.children.items u c.in_ok-children.ensures e)
    c.loop-child.child-index 0 c.loop-child-test.true c.args.queue.now c.loop-child.queue c.push_if_waiting.new.queue
    (c.loop-child.invariant u e) c.in_ok-push_if_waiting.ensures

pub returns : goal.returns
returns c = λ u e.
    children_wait (cut_tree c.args.tree.now c.args.cut.now)
    (cut_rises c.args.tree.now c.nodes-nodes.ensures.whole c.args.cut.now c.requires.of) c.args.node u e c.deref-child-items.result.now
    (c.deref-child-items.ensures.value ∙ children_are (subtree c.args.node (cut_tree c.args.tree.now c.args.cut.now)) c.in_ok-children.children.items u
    c.in_ok-children.ensures e)
    c.loop-child.child-index c.loop-child-test.false c.args.queue.now c.loop-child.queue (c.loop-child.invariant u e)
