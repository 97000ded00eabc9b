-- What contracts see of a walk, as one value.
use Rattle.reduce_rounds.specs.Trials.{Trials}
use Rattle.syntax_tree.specs.Trees.{PlainTree}
use Rattle.syntax_tree.specs.Nodes.{SyntaxTree}

-- The tree, what is left of it, and what is still tried.
pub record WalkState : Type 0 where
  pub tree : SyntaxTree
  pub left : PlainTree
  pub rest : Trials PlainTree
