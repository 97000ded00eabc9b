-- What one round of mode `hdd` tries: hierarchical delta debugging (Misherghi and Su, "HDD:
-- Hierarchical Delta Debugging", 2006). It goes through the levels of a tree from the root down.
use Rattle.std.specs.Prelude.{ℕ, zero, suc, ◌-◌, true, List, if◌then◌else◌, length}
use Rattle.normal_form.specs.Form.{NormalForm}
use Rattle.list_ddmin.specs.Machine.{State, start}
use Rattle.reduce_rounds.specs.Trials.{Trials, Done}
use Rattle.reduce_rounds.specs.ListTrials.{list_trials}
use Rattle.syntax_tree.specs.Trees.{PlainTree}
use Rattle.syntax_tree.specs.Levels.{depth}
use Rattle.hdd_levels.specs.Levels.{fills_pluses, is_so_deep, kept_tree, level}
use Rattle.reduce_hdd.specs.Allowed.{allowed_trials}

-- From a state of the list step over these nodes of the tree t: each keep list stands for the tree without the
-- nodes that it doesn't keep, and at the end the round goes on by `go` from the tree that is left.
abbrev pub nodes_tried : (PlainTree → Trials PlainTree) → List ℕ → PlainTree → State → Trials PlainTree
nodes_tried go nodes t step = list_trials (λ keep. kept_tree nodes keep t) (λ keep. go (kept_tree nodes keep t)) step

-- a level: the list step over its deletable nodes, which may all go
abbrev pub level_tried : (PlainTree → Trials PlainTree) → NormalForm → ℕ → PlainTree → Trials PlainTree
level_tried go N d t = nodes_tried go (level N d t) t (start (length (level N d t)) true)

-- level after level from the depth d on, as long as the tree that is left is so deep, but so many at most
unfoldable pub levels_within : NormalForm → ℕ → ℕ → PlainTree → Trials PlainTree
levels_within N zero d t = Done
levels_within N (suc times) d t = if is_so_deep d t then level_tried (λ u. levels_within N times (suc d) u) N d t else Done

-- As many as there are from there on down to the deepest node is enough, since no tree that is left is deeper.
abbrev pub levels_from : NormalForm → ℕ → PlainTree → Trials PlainTree
levels_from N d t = levels_within N (suc (depth t) - d) d t

-- A round of mode `hdd` from the tree t: the levels from the root on. A tree with an empty plus counts as no, and isn't tried.
abbrev pub levels : NormalForm → PlainTree → Trials PlainTree
levels N t = allowed_trials (fills_pluses N) (levels_from N 0 t)
