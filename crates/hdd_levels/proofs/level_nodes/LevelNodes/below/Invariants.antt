use Rattle.std.proofs.Common.{◌≡◌, List, map, take}
use Rattle.std.specs.List.{flat_map}
use Rattle.syntax_tree.specs.Trees.{PlainTree}
use Rattle.syntax_tree.specs.Numbered.{number_of}
use Rattle.syntax_tree_cut.specs.Cuts.{cut_tree}
use Rattle.hdd_levels.specs.Levels.{deletable_children}
use Rattle.hdd_levels.specs.LevelForms.{pluses_of}
use Rattle.hdd_levels.specs.inner.LevelForms.{AreNodesIn}
use Rattle.hdd_levels.proofs.level_nodes.LevelNodes.below.Given as goal

abbrev pub invariant-loop-parent : goal.invariant-loop-parent
invariant-loop-parent l =
    (ts : List PlainTree) → AreNodesIn (cut_tree l.fn.tree l.fn.cut) l.fn.parents.items ts →
    (l.nodes.items ≡ map number_of (flat_map (deletable_children l.fn.tree.form) (take l.parent-index ts)))
    × (l.pluses.items ≡ pluses_of l.fn.tree.form 0 (take l.parent-index ts))
