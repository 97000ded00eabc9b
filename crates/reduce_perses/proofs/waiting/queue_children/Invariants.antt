use Rattle.std.proofs.Common.{◌≡◌, Some}
use Rattle.syntax_tree.specs.Trees.{PlainTree, children_of}
use Rattle.syntax_tree.specs.Numbered.{subtree}
use Rattle.syntax_tree.specs.Nodes.{later_trees}
use Rattle.syntax_tree_cut.specs.Cuts.{cut_tree}
use Rattle.reduce_perses.specs.Queued.{with_trees}
use Rattle.reduce_perses.proofs.waiting.queue_children.Given as goal

-- with the children that are still to come it is the queue with all of them
abbrev pub invariant-loop-child : goal.invariant-loop-child
invariant-loop-child l =
    (u : PlainTree) → subtree l.fn.node (cut_tree l.fn.tree l.fn.cut) ≡ Some u
    → with_trees (later_trees l.child-index (children_of u)) l.queue ≡ with_trees (children_of u) l.fn.queue
