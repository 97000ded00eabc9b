use Rattle.std.proofs.Common.{◌≡◌, ◌++◌, List, map, take}
use Rattle.syntax_tree.specs.Trees.{PlainTree}
use Rattle.syntax_tree.specs.Numbered.{number_of}
use Rattle.syntax_tree_cut.specs.Cuts.{cut_tree}
use Rattle.hdd_levels.specs.inner.LevelForms.{AreNodesIn, with_leaves_in}
use Rattle.hdd_levels.proofs.nodes.push_with_tokens.Given as goal

abbrev pub invariant-loop-node : goal.invariant-loop-node
invariant-loop-node l =
    (ts : List PlainTree) → AreNodesIn (cut_tree l.fn.tree l.fn.cut) l.fn.nodes ts
    → l.into.items ≡ l.fn.into.items ++ map number_of (with_leaves_in (take l.node-index ts))
