-- Trees without some of their nodes.
use Rattle.std.specs.Prelude.{◌≡◌, ◌≢◌, ◌⊎◌, ℕ, ◌<◌, ⊤, if◌then◌else◌, nat_eq, Bool, true, false, List, [], ◌∷◌, Some, None, slice_get}
use Rattle.std.specs.List.{Contains, list_any}
use Rattle.std.specs.Option.{option_map_or}
use Rattle.normal_form.specs.declared.normal.Sym.{Sym}
use Rattle.normal_form.specs.Form.{RuleForm, NormalForm}
use Rattle.syntax_tree.specs.Trees.{PlainTree, PlainTrees, weight}
use Rattle.syntax_tree.specs.Numbered.{number_of, subtree}
use Rattle.syntax_tree.specs.Valid.{IsValid}

-- whether the number is one of these
abbrev pub is_among : List ℕ → ℕ → Bool
is_among qs q = list_any (nat_eq q) qs

abbrev mutual
  -- the tree without those of the nodes below it that have one of the numbers
  pub without_nodes : List ℕ → PlainTree → PlainTree
  without_nodes qs (PlainTree.leaf n k i) = PlainTree.leaf n k i
  without_nodes qs (PlainTree.node n r a ts) = PlainTree.node n r a (without_nodes_all qs ts)

  -- the trees without those that have one of the numbers, and without such nodes below the others
  pub without_nodes_all : List ℕ → PlainTrees → PlainTrees
  without_nodes_all qs PlainTrees.none = PlainTrees.none
  without_nodes_all qs (PlainTrees.next t ts) =
      if is_among qs (number_of t) then without_nodes_all qs ts else PlainTrees.next (without_nodes qs t) (without_nodes_all qs ts)

-- those of the nodes that the flags don't keep
abbrev pub dropped : List ℕ → List Bool → List ℕ
dropped [] keep = []
dropped (q ∷ qs) [] = q ∷ dropped qs []
dropped (q ∷ qs) (true ∷ keep) = dropped qs keep
dropped (q ∷ qs) (false ∷ keep) = q ∷ dropped qs keep

-- whether the nodes of a rule of this form can lose children: elements of a star or plus, the content of an optional
abbrev pub form_loses : RuleForm → Bool
form_loses (RuleForm.regular alternatives) = false
form_loses (RuleForm.star s) = true
form_loses (RuleForm.plus s) = true
form_loses (RuleForm.opt s) = true

abbrev pub loses_children : NormalForm → ℕ → Bool
loses_children N r = option_map_or form_loses (slice_get N.rules r) false

-- None of the trees itself has one of the numbers.
abbrev pub NoneAmong : List ℕ → PlainTrees → Type 0
NoneAmong qs PlainTrees.none = ⊤
NoneAmong qs (PlainTrees.next t ts) = (is_among qs (number_of t) ≡ false) × NoneAmong qs ts

abbrev mutual
  -- Those of the nodes below the tree that have one of the numbers are elements of stars and pluses, or contents of optionals.
  pub AreElements : NormalForm → List ℕ → PlainTree → Type 0
  AreElements N qs (PlainTree.leaf n k i) = ⊤
  AreElements N qs (PlainTree.node n r a ts) = ((loses_children N r ≡ true) ⊎ NoneAmong qs ts) × AreElementsOfAll N qs ts

  pub AreElementsOfAll : NormalForm → List ℕ → PlainTrees → Type 0
  AreElementsOfAll N qs PlainTrees.none = ⊤
  AreElementsOfAll N qs (PlainTrees.next t ts) = AreElements N qs t × AreElementsOfAll N qs ts

-- The tree has a node with this number below its root, and the node has a leaf.
pub record HasLeafBelow (t : PlainTree) (q : ℕ) : Type 0 where
  pub node : PlainTree
  pub node_is : subtree q t ≡ Some node
  pub below : number_of t ≢ q
  pub leaf : 0 < weight node

-- These are numbers of such nodes from left to right, of which none is below another.
abbrev pub AreApart : PlainTree → List ℕ → Type 0
AreApart t [] = ⊤
AreApart t (p ∷ qs) = HasLeafBelow t p × ((q : ℕ) → Contains qs q → (p < q) × ((u : PlainTree) → subtree p t ≡ Some u → subtree q u ≡ None)) × AreApart t qs

-- Of a tree that is for the slot, the nodes with these numbers can be deleted at once.
pub record CanDrop (N : NormalForm) (s : Sym) (t : PlainTree) (qs : List ℕ) : Type 0 where
  pub apart : AreApart t qs
  pub elements : AreElements N qs t
  pub valid : IsValid N s (without_nodes qs t)
