-- The fields of a walk through the levels of a tree, and what they mean.
use Rattle.std.specs.Prelude.{◌≡◌, ℕ, suc, true, Option, Some, None, length}
use Rattle.normal_form.specs.Form.{NormalForm}
use Rattle.list_ddmin.specs.Machine.{IsSound, kept}
use Rattle.reduce_rounds.specs.Trials.{Trials, Done}
use Rattle.syntax_tree.specs.Trees.{PlainTree}
use Rattle.syntax_tree.specs.Nodes.{SyntaxTree}
use Rattle.syntax_tree_cut.specs.Cuts.{CutForm, IsCutOf, cut_tree}
use Rattle.hdd_levels.specs.Levels.{fills_pluses, kept_tree}
use Rattle.hdd_levels.specs.LevelForms.{IsLevelAt}
use Rattle.reduce_hdd.specs.Allowed.{allowed_trials}
use Rattle.reduce_hdd.specs.Round.{levels_from}
use Rattle.reduce_walk.specs.WalkState.{WalkState}
use Rattle.reduce_hdd.specs.declared.level_step.LevelStep.{LevelStep}
use Rattle.reduce_hdd.specs.inner.Passing.{IsAsking, allowed_from}

-- what is tried from this depth on
abbrev pub levels_below : NormalForm → ℕ → PlainTree → Trials PlainTree
levels_below N d t = allowed_trials (fills_pluses N) (levels_from N d t)

-- the tree that the last yes of a list step leaves
abbrev pub step_left : PlainTree → LevelStep → PlainTree
step_left t s = kept_tree s.level.nodes (kept s.step) t

-- what is tried from there on
abbrev pub step_trials : NormalForm → PlainTree → LevelStep → Trials PlainTree
step_trials N t s = allowed_from N t s.level.nodes (λ u. levels_from N (suc s.depth) u) s.step

-- the same, where there may be none
abbrev pub tree_left : PlainTree → Option LevelStep → PlainTree
tree_left t None = t
tree_left t (Some s) = step_left t s

abbrev pub trials_within : NormalForm → PlainTree → Option LevelStep → Trials PlainTree
trials_within N t None = Done
trials_within N t (Some s) = step_trials N t s

-- It is a list step over a level of the tree, and its last yes leaves no plus empty.
pub record IsLevelStep (N : NormalForm) (t : PlainTree) (s : LevelStep) : Type 0 where
  pub level_is : IsLevelAt N t s.depth s.level
  pub sound : IsSound s.step
  pub each : length (kept s.step) ≡ length s.level.nodes
  pub full : fills_pluses N (step_left t s) ≡ true

-- It is such a step and asks for a tree that may be tried.
pub record IsAskingStep (N : NormalForm) (t : PlainTree) (s : LevelStep) : Type 0 where
  pub step_is : IsLevelStep N t s
  pub asking : IsAsking N t s.level.nodes s.step

-- the same, where there may be none
abbrev pub IsWalking : NormalForm → PlainTree → Option LevelStep → Type 0
IsWalking N t None = Unit {0}
IsWalking N t (Some s) = IsAskingStep N t s

-- What holds of a tree whose levels are walked through: the cut is one of it, and a list step that there is is one over a level of what is left.
pub record AreLevels (tree : SyntaxTree) (cut : CutForm) (step : Option LevelStep) : Type 0 where
  pub of : IsCutOf tree cut
  pub walking : IsWalking tree.form (cut_tree tree cut) step

abbrev pub walk_state : SyntaxTree → CutForm → Option LevelStep → WalkState
walk_state tree cut step =
    record { tree = tree; left = tree_left (cut_tree tree cut) step; rest = trials_within tree.form (cut_tree tree cut) step }
