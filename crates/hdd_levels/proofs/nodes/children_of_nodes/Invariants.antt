use Rattle.std.proofs.Common.{◌≡◌, List, map, take}
use Rattle.syntax_tree.specs.Trees.{PlainTree}
use Rattle.syntax_tree.specs.Numbered.{number_of}
use Rattle.syntax_tree_cut.specs.Cuts.{cut_tree}
use Rattle.descend_replace.specs.LevelLaws.{children_of_each}
use Rattle.hdd_levels.specs.inner.LevelForms.{AreNodesIn}
use Rattle.hdd_levels.proofs.nodes.children_of_nodes.Given as goal

abbrev pub invariant-loop-node : goal.invariant-loop-node
invariant-loop-node l =
    (ts : List PlainTree) → AreNodesIn (cut_tree l.fn.tree l.fn.cut) l.fn.nodes ts → l.found.items ≡ map number_of (children_of_each (take l.node-index ts))
