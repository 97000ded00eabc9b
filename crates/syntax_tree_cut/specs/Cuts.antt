-- What is left of a parsed tree after deletions and replacements.
use Rattle.std.specs.Prelude.{◌≡◌, ◌⊎◌, ℕ, ◌≤◌, if◌then◌else◌, nat_eq, Bool, true, List, Option, Some, None, length, slice_get, slice_index_or}
use Rattle.std.specs.List.{Contains}
use Rattle.std.specs.Option.{option_and_then, option_map, option_map_or, option_or}
use Rattle.normal_form.specs.declared.normal.Sym.{Sym}
use Rattle.normal_form.specs.Form.{RuleForm, NormalForm}
use Rattle.compat_table.specs.Fits.{Fits}
use Rattle.syntax_tree.specs.declared.node.Node.{Node}
use Rattle.syntax_tree.specs.Trees.{PlainTree, PlainTrees, IsBelow, children_of, count, leaves, size, symbol_of}
use Rattle.syntax_tree.specs.Numbered.{number_of, roots, subtree, subtree_among, with_subtree}
use Rattle.syntax_tree.specs.Valid.{IsTreeFor, slot_at}
use Rattle.syntax_tree.specs.Nodes.{SyntaxTree, whole}
use Rattle.syntax_tree.specs.Left.{IsRemainderOf}
use Rattle.syntax_tree_cut.specs.declared.mark.Mark.{Mark}
use Rattle.syntax_tree_cut.specs.declared.mark.Mark.TheVariants.{Kept, Deleted, Replaced}

-- What a cut has: for each node of the parsed tree a mark, and the number of the node whose position it is at where it is left; and the tokens that are left.
pub record CutForm : Type 0 where
  pub marks : List Mark
  pub positions : List ℕ
  pub kept : List ℕ

-- the mark of the node with this number
abbrev pub mark_at : List Mark → ℕ → Mark
mark_at marks n = slice_index_or marks n Kept

-- What a mark leaves at the position of a node: itself, none, or what is left of the node that replaces it.
abbrev pub by_mark : Mark → PlainTree → (ℕ → Option PlainTree) → Option PlainTree
by_mark Kept itself left_of = Some itself
by_mark Deleted itself left_of = None
by_mark (Replaced by) itself left_of = left_of by

-- one more tree, or none, before others
abbrev pub or_next : Option PlainTree → PlainTrees → PlainTrees
or_next None ts = ts
or_next (Some t) ts = PlainTrees.next t ts

abbrev mutual
  -- what is left at the position of the node with the number b of the tree, if it has one
  pub left_at : List Mark → ℕ → PlainTree → Option PlainTree
  left_at marks b (PlainTree.leaf n k i) = if nat_eq n b then by_mark (mark_at marks n) (PlainTree.leaf n k i) (λ by. None) else None
  left_at marks b (PlainTree.node n r a ts) =
      if nat_eq n b then by_mark (mark_at marks n) (PlainTree.node n r a (left_of_each marks ts)) (λ by. left_among marks by ts) else left_among marks b ts

  -- the same in the one of the trees that has the node
  pub left_among : List Mark → ℕ → PlainTrees → Option PlainTree
  left_among marks b PlainTrees.none = None
  left_among marks b (PlainTrees.next t ts) = option_or (left_at marks b t) (left_among marks b ts)

  -- what is left at the position of each of the trees
  pub left_of_each : List Mark → PlainTrees → PlainTrees
  left_of_each marks PlainTrees.none = PlainTrees.none
  left_of_each marks (PlainTrees.next t ts) = or_next (left_at marks (number_of t) t) (left_of_each marks ts)

-- the tree that is left (in a cut there always is one; no other marks matter)
abbrev pub cut_tree : SyntaxTree → CutForm → PlainTree
cut_tree tree c = option_map_or (λ t. t) (left_at c.marks 0 (whole tree)) (whole tree)

-- Nodes are replaced by ones below them.
abbrev pub ReplacementsGoDown : List Mark → PlainTree → Type 0
ReplacementsGoDown marks t =
    (q by : ℕ) (u : PlainTree) → subtree q t ≡ Some u → mark_at marks q ≡ Replaced by → (w : PlainTree) × (subtree_among by (children_of u) ≡ Some w)

-- What is at the position of a node: it, none, or what is at that of the node that replaces it.
pub data IsOccupant (marks : List Mark) : ℕ → Option ℕ → Type 0 where
  itself : (q : ℕ) → slice_get marks q ≡ Some Kept → IsOccupant marks q (Some q)
  deleted : (q : ℕ) → slice_get marks q ≡ Some Deleted → IsOccupant marks q None
  replaced : (q by : ℕ) (o : Option ℕ) → slice_get marks q ≡ Some (Replaced by) → IsOccupant marks by o → IsOccupant marks q o

-- the slot of the position that a node is at
abbrev pub slot_of : SyntaxTree → List ℕ → ℕ → Option Sym
slot_of tree positions q = option_map (λ (x : Node). x.slot) (option_and_then (λ p. slice_get tree.nodes p) (slice_get positions q))

-- What the cut has is of this tree.
pub record IsCutOf (tree : SyntaxTree) (c : CutForm) : Type 0 where
  -- there is a mark for each node
  pub for_each : length c.marks ≡ size (whole tree)
  pub down : ReplacementsGoDown c.marks (whole tree)
  -- a tree is left, of what was in the parsed tree, for the same slot
  pub root : left_at c.marks 0 (whole tree) ≡ Some (cut_tree tree c)
  pub part : IsRemainderOf (whole tree) (cut_tree tree c)
  pub fits : IsTreeFor tree.form tree.start (cut_tree tree c)
  -- each node that is left is at a position with its slot
  pub slots : (q : ℕ) (s : Sym) → slot_at tree.form tree.start q (cut_tree tree c) ≡ Some s → slot_of tree c.positions q ≡ Some s
  -- the tokens are those of its leaves
  pub kept : c.kept ≡ leaves (cut_tree tree c)

-- the trees without the one that has this number
abbrev pub without : ℕ → PlainTrees → PlainTrees
without q PlainTrees.none = PlainTrees.none
without q (PlainTrees.next t ts) = if nat_eq (number_of t) q then ts else PlainTrees.next t (without q ts)

-- The second tree is the first one, in which the node q has, in place of its children, those that the function gives.
abbrev pub HasChildren : ℕ → (PlainTrees → PlainTrees) → PlainTree → PlainTree → Type 0
HasChildren q f t u = (r a : ℕ) (ts : PlainTrees) → subtree q t ≡ Some (PlainTree.node q r a ts) → u ≡ with_subtree q (PlainTree.node q r a (f ts)) t

-- The node `list` of the tree is a star or plus, and `element` is one of its children, of which a plus has at least two.
pub record CanDelete (N : NormalForm) (t : PlainTree) (list element : ℕ) : Type 0 where
  pub rule : ℕ
  pub alt : ℕ
  pub elements : PlainTrees
  pub symbol : Sym
  pub node : subtree list t ≡ Some (PlainTree.node list rule alt elements)
  pub is_list : (slice_get N.rules rule ≡ Some (RuleForm.star symbol)) ⊎ ((slice_get N.rules rule ≡ Some (RuleForm.plus symbol)) × (2 ≤ count elements))
  pub is_element : Contains (roots elements) element

-- The node `list` of the tree is a star or plus with as many children as there are flags, and of a plus at least one is kept.
pub record CanSelect (N : NormalForm) (t : PlainTree) (list : ℕ) (keep : List Bool) : Type 0 where
  pub rule : ℕ
  pub alt : ℕ
  pub elements : PlainTrees
  pub symbol : Sym
  pub node : subtree list t ≡ Some (PlainTree.node list rule alt elements)
  pub is_list : (slice_get N.rules rule ≡ Some (RuleForm.star symbol)) ⊎ ((slice_get N.rules rule ≡ Some (RuleForm.plus symbol)) × Contains keep true)
  pub each : length keep ≡ count elements

-- The node of the tree is a present optional.
pub record CanEmpty (N : NormalForm) (t : PlainTree) (q : ℕ) : Type 0 where
  pub rule : ℕ
  pub alt : ℕ
  pub content : PlainTree
  pub symbol : Sym
  pub node : subtree q t ≡ Some (PlainTree.node q rule alt (PlainTrees.next content PlainTrees.none))
  pub is_optional : slice_get N.rules rule ≡ Some (RuleForm.opt symbol)

-- The node of the tree, which is for the slot, is regular, and the node `by` is below it and fits its slot.
pub record CanReplace (N : NormalForm) (start : Sym) (t : PlainTree) (q by : ℕ) : Type 0 where
  pub rule : ℕ
  pub alt : ℕ
  pub children : PlainTrees
  pub alternatives : List (List Sym)
  pub slot : Sym
  pub other : PlainTree
  pub node : subtree q t ≡ Some (PlainTree.node q rule alt children)
  pub is_regular : slice_get N.rules rule ≡ Some (RuleForm.regular alternatives)
  pub slot_is : slot_at N start q t ≡ Some slot
  pub other_is : subtree by t ≡ Some other
  pub below : IsBelow other (PlainTree.node q rule alt children)
  pub fits : Fits N (symbol_of other) slot
