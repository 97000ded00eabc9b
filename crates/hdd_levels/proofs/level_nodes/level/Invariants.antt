use Rattle.std.proofs.Common.{◌≤◌, ◌-◌}
use Rattle.syntax_tree_cut.specs.Cuts.{cut_tree}
use Rattle.hdd_levels.specs.LevelForms.{IsLevelAt}
use Rattle.hdd_levels.proofs.level_nodes.level.Given as goal

abbrev pub invariant-loop-reached : goal.invariant-loop-reached
invariant-loop-reached l = (l.reached ≤ l.fn.depth) × IsLevelAt l.fn.tree.form (cut_tree l.fn.tree l.fn.cut) l.reached l.level

abbrev pub decreases-loop-reached : goal.decreases-loop-reached
decreases-loop-reached l = l.fn.depth - l.reached
