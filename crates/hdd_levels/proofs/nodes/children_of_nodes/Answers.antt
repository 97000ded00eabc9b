use Rattle.syntax_tree_cut.specs.Cuts.{cut_tree}
use Rattle.hdd_levels.proofs.FoundNodes.{children_more, is_left}
use Rattle.hdd_levels.proofs.nodes.children_of_nodes.Goals as goal

pub push_children-requires-clause-left : goal.push_children-requires-clause-left
push_children-requires-clause-left c =
    is_left (cut_tree c.args.tree.now c.args.cut.now) c.args.nodes.now c.requires.nodes.0 c.requires.nodes.1 c.loop-node.node-index 0 c.loop-node-test.true

pub loop-node-preserved : goal.loop-node-preserved
loop-node-preserved c = λ ts are.
    children_more (cut_tree c.args.tree.now c.args.cut.now) c.args.nodes.now ts are c.loop-node.node-index 0 c.loop-node-test.true c.loop-node.found.items
    c.push_children.new.into.items (c.loop-node.invariant ts are) c.in_ok-push_children.ensures
