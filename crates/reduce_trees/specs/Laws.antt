-- What modes of trees owe to reductions by rounds.
use Rattle.std.specs.Prelude.{◌≡◌, ℕ, Bool, List}
use Rattle.normal_form.specs.declared.normal.Sym.{Sym}
use Rattle.normal_form.specs.Form.{NormalForm}
use Rattle.reduce_rounds.specs.Mode.{IsLawful, TriesEdits}
use Rattle.reduce_rounds.specs.Reduction.{reduction}
use Rattle.reduce_rounds.specs.ByTrials.{reduction_of, round_of}
use Rattle.reduce_rounds.specs.Trials.{Trials}
use Rattle.syntax_tree.specs.Trees.{PlainTree}
use Rattle.reduce_trees_mode.specs.Input.{IsInput, TreeInput, TreeState}
use Rattle.reduce_trees_mode.specs.Listed.{IsKept}
use Rattle.reduce_step.specs.declared.mode.TreeMode.{TreeMode}
use Rattle.reduce_trees_mode.specs.InStyles.{IsEditIn, end_in, tree_recursion, trees_in}
use Rattle.reduce_hdd.specs.Followed.{levels_end}
use Rattle.reduce_perses.specs.VisitEnd.{visit_end}
use Rattle.descend_replace.specs.FitsIn.{fits_in}
use Rattle.reduce_trees.specs.HddMode.{hdd_mode}
use Rattle.reduce_trees.specs.PersesMode.{perses_mode}
use Rattle.reduce_trees.specs.TreeRounds.{tree_round}
use Rattle.reduce_trees.specs.WalkMode.{walk_mode}

module _ (round : NormalForm → Sym → PlainTree → Trials PlainTree) where
  -- The mode with these rounds reaches kept states alone, and within a round each yes makes the tree smaller.
  abbrev pub WalksAreLawful : Type 0
  WalksAreLawful = (input : TreeInput) → IsInput input → IsLawful (walk_mode round input) (IsKept input)

  -- A round whose answers are all no has tried each of these edits.
  abbrev pub WalksTryEdits : (NormalForm → Sym → PlainTree → PlainTree → Type 0) → Type 0
  WalksTryEdits IsEdit = (input : TreeInput) → IsInput input → TriesEdits (walk_mode round input) (IsKept input) (IsEditIn (IsEdit input.form input.symbol))

-- Over a verdict on every text a round of mode `perses` is the recursion that visits node after node, over the trees in the state's style.
abbrev pub PersesRoundsAreVisits : Type 0
PersesRoundsAreVisits = (input : TreeInput) (verdict : List ℕ → Bool) (state : TreeState) → IsInput input → IsKept input state
    → round_of (perses_mode input) verdict state ≡ end_in state.style
    (visit_end (trees_in input state.style) verdict input.form (fits_in input.form) input.symbol state.tree)

-- A round of mode `hdd` is the recursion that goes level after level.
abbrev pub HddRoundsAreLevels : Type 0
HddRoundsAreLevels = (input : TreeInput) (verdict : List ℕ → Bool) (state : TreeState)
    → round_of (hdd_mode input) verdict state ≡ end_in state.style (levels_end input.form (trees_in input state.style) verdict state.tree)

-- The reductions of an input by rounds that try this are those of the mode's recursion.
abbrev pub WalksAreRecursions : TreeMode → (NormalForm → Sym → PlainTree → Trials PlainTree) → Type 0
WalksAreRecursions mode round = (input : TreeInput) (verdict : List ℕ → Bool) → IsInput input
    → reduction (tree_recursion (tree_round mode input) input) verdict ≡ reduction_of (walk_mode round input) verdict
