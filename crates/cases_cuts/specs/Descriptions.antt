-- What is said of a node that is left.
use Rattle.std.specs.Prelude.{◌≡◌, ℕ, Bool, Some, map, slice_get}
use Rattle.normal_form.specs.declared.normal.Sym.{Sym}
use Rattle.syntax_tree.specs.Trees.{PlainTree, children_of, leaves, weight}
use Rattle.syntax_tree.specs.Numbered.{number_of, roots, subtree}
use Rattle.syntax_tree.specs.Valid.{slot_at}
use Rattle.syntax_tree.specs.Nodes.{SyntaxTree}
use Rattle.syntax_tree.specs.Levels.{below_in_level_order}
use Rattle.descend_replace.specs.Compatible.{DecidesFits, compatible}
use Rattle.cases_cuts.specs.declared.descendants.Below.{Below}
use Rattle.cases_cuts.specs.declared.node.Description.{Description}

-- The node q of the tree t, which is left of a parsed one, has these children, so many leaves, of which this is the first, and this slot.
pub record IsDescriptionOf (tree : SyntaxTree) (t : PlainTree) (q : ℕ) (found : Description) : Type 0 where
  pub node : PlainTree
  pub node_is : subtree q t ≡ Some node
  pub children : found.children.items ≡ roots (children_of node)
  pub weight_is : found.weight ≡ weight node
  pub first : found.first_token ≡ slice_get (leaves node) 0
  pub slot : slot_at tree.form tree.start q t ≡ Some found.slot

-- These are the numbers of all nodes below the node q of the tree t, in level order, and of those of them that can take its position.
pub record IsBelowOf (tree : SyntaxTree) (t : PlainTree) (q : ℕ) (found : Below) : Type 0 where
  pub node : PlainTree
  pub node_is : subtree q t ≡ Some node
  pub all : found.all.items ≡ map number_of (below_in_level_order node)
  pub compatible_are : (fits : Sym → Sym → Bool) (s : Sym) → DecidesFits tree.form fits → slot_at tree.form tree.start q t ≡ Some s
      → found.compatible.items ≡ map number_of (compatible fits s node)
