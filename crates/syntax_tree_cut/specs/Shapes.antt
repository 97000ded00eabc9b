-- What nodes are by their rules.
use Rattle.std.specs.Prelude.{Option, Some, slice_get}
use Rattle.std.specs.Option.{option_map}
use Rattle.normal_form.specs.declared.normal.Sym.{Sym}
use Rattle.normal_form.specs.declared.normal.Sym.TheVariants.{Kind, Set, Rule}
use Rattle.normal_form.specs.Form.{RuleForm, NormalForm}
use Rattle.syntax_tree.specs.Trees.{PlainTree, symbol_of}
use Rattle.syntax_tree_cut.specs.declared.shape.Shape.{Shape}
use Rattle.syntax_tree_cut.specs.declared.shape.Shape.TheVariants.{Leaf, Star, Plus, Optional, Regular}

abbrev pub shape_of_form : RuleForm → Shape
shape_of_form (RuleForm.regular alternatives) = Regular
shape_of_form (RuleForm.star s) = Star
shape_of_form (RuleForm.plus s) = Plus
shape_of_form (RuleForm.opt s) = Optional

-- the shape of the nodes with this symbol: a kind's are leaves, a rule's have that of the rule, if there is such a rule
abbrev pub shape_of_symbol : NormalForm → Sym → Option Shape
shape_of_symbol N (Kind k) = Some Leaf
shape_of_symbol N (Set g) = Some Leaf
shape_of_symbol N (Rule r) = option_map shape_of_form (slice_get N.rules r)

-- the shape of the tree's root
abbrev pub shape_of : NormalForm → PlainTree → Option Shape
shape_of N t = shape_of_symbol N (symbol_of t)
