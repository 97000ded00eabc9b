use Rattle.std.proofs.Common.{suc, ◌-◌}
use Rattle.syntax_tree.specs.Levels.{depth}
use Rattle.syntax_tree_cut.specs.Cuts.{cut_tree}
use Rattle.reduce_hdd.proofs.Descents.{IsDescending}
use Rattle.reduce_hdd.proofs.descent.descend.Given as goal

abbrev pub invariant-loop-above : goal.invariant-loop-above
invariant-loop-above l = IsDescending l.fn.tree.form (cut_tree l.fn.tree l.fn.cut) l.fn.depth l.above l.depth

abbrev pub decreases-loop-above : goal.decreases-loop-above
decreases-loop-above l = suc (depth (cut_tree l.fn.tree l.fn.cut)) - l.depth
