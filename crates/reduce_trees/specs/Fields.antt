-- The fields of a round of trees, and what they mean.
use Rattle.std.specs.Prelude.{◌≡◌}
use Rattle.syntax_tree.specs.Nodes.{SyntaxTree, whole}
use Rattle.reduce_trees_mode.specs.Input.{TreeInput}

-- The tree is that of the input.
pub record IsTreeOf (input : TreeInput) (tree : SyntaxTree) : Type 0 where
  pub form : tree.form ≡ input.form
  pub symbol : tree.start ≡ input.symbol
  pub whole_is : whole tree ≡ input.whole
