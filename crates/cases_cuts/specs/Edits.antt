-- Single edits of a tree that is left, which name nodes by their numbers.
use Rattle.std.specs.Prelude.{◌≡◌, Bool, true, false, Some}
use Rattle.syntax_tree.specs.Trees.{PlainTree, PlainTrees}
use Rattle.syntax_tree.specs.Numbered.{subtree, with_subtree}
use Rattle.syntax_tree.specs.Nodes.{SyntaxTree}
use Rattle.syntax_tree_cut.specs.Cuts.{CanDelete, CanEmpty, CanReplace, CutForm, HasChildren, cut_tree, without}
use Rattle.cases_cuts.specs.declared.edit.Edit.{Edit}
use Rattle.cases_cuts.specs.declared.edit.Edit.TheVariants.{Delete, Empty, Replace}

-- The edit can be made of the tree t, which is left of a parsed one: of a list that can lose this
-- element, a present optional, or a regular node and one below it that fits its slot.
abbrev pub CanMake : SyntaxTree → PlainTree → Edit → Type 0
CanMake tree t (Delete list element) = CanDelete tree.form t list element
CanMake tree t (Empty node) = CanEmpty tree.form t node
CanMake tree t (Replace node by) = CanReplace tree.form tree.start t node by

-- The edit makes the tree u of the tree t: without that element, without that content, or with the one node in place of the other.
abbrev pub Makes : Edit → PlainTree → PlainTree → Type 0
Makes (Delete list element) t u = HasChildren list (without element) t u
Makes (Empty node) t u = HasChildren node (λ ts. PlainTrees.none) t u
Makes (Replace node by) t u = (v : PlainTree) → subtree by t ≡ Some v → u ≡ with_subtree node v t

-- What is left afterwards: what the edit makes, where it was made, and else the same cut.
abbrev pub MakesIf : Bool → SyntaxTree → Edit → CutForm → CutForm → Type 0
MakesIf true tree edit c d = Makes edit (cut_tree tree c) (cut_tree tree d)
MakesIf false tree edit c d = d ≡ c
