-- What a mode of trees owes, and what it owes it to: the trials of a round from a tree.
use Rattle.std.specs.Prelude.{◌≡◌}
use Rattle.syntax_tree.specs.Trees.{PlainTree, weight}
use Rattle.syntax_tree.specs.Valid.{IsTreeFor}
use Rattle.syntax_tree.specs.Left.{IsRemainderOf}
use Rattle.reduce_rounds.specs.Trials.{Trials, AllTried, EachIsSmaller, IsTriedAtNo}
use Rattle.reduce_rounds.specs.Mode.{IsLawful}
use Rattle.reduce_trees_mode.specs.Input.{IsInput, TreeInput, TreeState}
use Rattle.reduce_trees_mode.specs.Listed.{IsKept}
use Rattle.reduce_trees_mode.specs.TreeTrials.{tree_mode}

-- The tree is valid for the start rule, and is left of the tree of all tokens.
abbrev pub IsKeptTree : TreeInput → PlainTree → Type 0
IsKeptTree input tree = IsTreeFor input.form input.symbol tree × IsRemainderOf input.whole tree

-- A round from such a tree tries such trees alone, and each yes makes it smaller.
pub record IsLawfulRound (input : TreeInput) (round : PlainTree → Trials PlainTree) : Type 0 where
  pub kept : (tree : PlainTree) → IsKeptTree input tree → AllTried (IsKeptTree input) (round tree)
  pub smaller : (tree : PlainTree) → IsKeptTree input tree → EachIsSmaller weight (weight tree) (round tree)

-- The mode is then lawful.
abbrev pub TreeModeIsLawful : Type 0
TreeModeIsLawful =
    (input : TreeInput) (round : PlainTree → Trials PlainTree) → IsInput input → IsLawfulRound input round → IsLawful (tree_mode round input) (IsKept input)

-- If all its answers are no, a round of the mode tries the trees that the round from its tree tries, in the same style.
abbrev pub TreeModeTriesTrees : Type 0
TreeModeTriesTrees =
    (input : TreeInput) (round : PlainTree → Trials PlainTree) (state other : TreeState) → IsTriedAtNo (round state.tree) other.tree → state.style ≡ other.style
    → IsTriedAtNo ((tree_mode round input).round state) other
