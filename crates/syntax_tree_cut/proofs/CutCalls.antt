-- What the calls of cuts promise.
use Rattle.std.proofs.Common.{◌≡◌, ◌⊎◌, inl, inr, ℕ, ◌+◌, ◌<◌, ◌≤◌, [], ◌∷◌, ◌++◌, Option, Some, None, length, refl, sym, ap, ◌∙◌, subst, arith}
use Rattle.std.specs.Prelude.{option_to_list}
use Rattle.std.specs.List.{Contains}
use Rattle.std.specs.Option.{option_map}
use Rattle.std.proofs.lemmas.Option.{same_Some}
use Rattle.normal_form.specs.Form.{RuleForm}
use Rattle.syntax_tree.specs.Trees as trees
use Rattle.syntax_tree.specs.Trees.{IsBelow, IsIn, IsInSome, PlainTree, PlainTrees, children_of, count, size, weight, weight_all}
use Rattle.syntax_tree.specs.Numbered.{number_of, roots, subtree, with_subtree}
use Rattle.syntax_tree.specs.Nodes.{AreNodesOf, SyntaxTree, whole}
use Rattle.syntax_tree.specs.Valid.{IsValid}
use Rattle.syntax_tree.specs.Edits.{IsLocalDeletion, LeavesOut, of_opt, of_plus, of_star}
use Rattle.syntax_tree_cut.specs.Cuts.{CanDelete, CanEmpty, CanReplace, CutForm, HasChildren, IsCutOf, IsOccupant, cut_tree, left_at, left_of_each, without}
use Rattle.syntax_tree_cut.specs.inner.TreeLaws.{TreeLaws}
use Rattle.syntax_tree_cut.specs.inner.Children.{IsRest}
use Rattle.syntax_tree_cut.specs.inner.Steps.{HasDeleted, HasReplaced}
use Rattle.syntax_tree_cut.proofs.Rising.{subtree_below, subtree_own, subtree_within, when_equal}
use Rattle.syntax_tree_cut.proofs.Deletions.{child_found, child_within, left_out_count, some_first, without_leaves_out}
use Rattle.syntax_tree_cut.proofs.CutEdits.{child_gone, deeper_found, node_was, replaced_cut, tree_rises, whole_numbers, whole_rises}
use Rattle.syntax_tree_cut.proofs.LeftTrees.{left_below}
use Rattle.syntax_tree_cut.proofs.CutFacts.{NodeFacts, node_facts, root_number}
use Rattle.syntax_tree_cut.proofs.Positions.{children_begin, children_next, left_node, occupant_is, optional_children, position_within}

-- what is below a tree has no more leaves
mutual
  lighter_in : (u t : PlainTree) → IsIn u t → weight u ≤ weight t
  lighter_in u t (trees.itself t') = omega arith
  lighter_in u t (trees.below u' n r a ts some) = lighter_some u ts some

  lighter_some : (u : PlainTree) (ts : PlainTrees) → IsInSome u ts → weight u ≤ weight_all ts
  lighter_some u ts (trees.in_first u' t ts' is) = let less = lighter_in u t is in omega (arith, less)
  lighter_some u ts (trees.in_later u' t ts' is) = let less = lighter_some u ts' is in omega (arith, less)

pub lighter_below : (u t : PlainTree) → IsBelow u t → weight u ≤ weight t
lighter_below u (PlainTree.leaf n k i) some = elim some [ ]
lighter_below u (PlainTree.node n r a ts) some = lighter_some u ts some

module _ (tree : SyntaxTree) (laws : TreeLaws) (are : AreNodesOf tree.form tree.start tree.nodes (whole tree)) (c : CutForm) (of : IsCutOf tree c) where
  pub child_left : (p q r a : ℕ) (us : PlainTrees) → subtree p (cut_tree tree c) ≡ Some (PlainTree.node p r a us) → Contains (roots us) q → (x : PlainTree)
      × (subtree q (cut_tree tree c) ≡ Some x)
  child_left p q r a us sub has =
      let at = subtree_within 0 (size (whole tree)) (cut_tree tree c) (tree_rises tree laws are c of) p (PlainTree.node p r a us) sub in
      let found = child_found (p + 1) (size (whole tree)) us at.1.1 q has in
      let within = child_within (p + 1) (size (whole tree)) us at.1.1 q has in (
        found.0,
        deeper_found 0 (size (whole tree)) (cut_tree tree c) (tree_rises tree laws are c of) p q (PlainTree.node p r a us) found.0 sub
            (subtree_below q p r a us (λ (e : p ≡ q). omega (arith, e, within)) ∙ found.1),
      )

  -- what is at the position of the parsed tree's root
  pub root_is : (o : Option ℕ) → IsOccupant c.marks 0 o → o ≡ Some (number_of (cut_tree tree c))
  root_is o at =
      sym (occupant_is tree laws are c of 0 o at (whole tree) (subtree_own 0 (whole tree) (root_number 0 (whole tree) are.whole.numbered)))
      ∙ ap (option_map number_of) of.root

  -- the same node by other names
  pub renamed : (p r a r' a' : ℕ) (us us' : PlainTrees) (f : PlainTrees → PlainTrees) (t u : PlainTree)
      → Some (PlainTree.node p r a us) ≡ Some (PlainTree.node p r' a' us') → u ≡ with_subtree p (PlainTree.node p r a (f us)) t
      → u ≡ with_subtree p (PlainTree.node p r' a' (f us')) t
  renamed p r a r' a' us us' f t u e is =
      let rules : r ≡ r' = cc in
      let alts : a ≡ a' = cc in
      let children : us ≡ us' = cc in
      is
      ∙ ap (λ (x : ℕ). with_subtree p (PlainTree.node p x a (f us)) t) rules
      ∙ ap (λ (x : ℕ). with_subtree p (PlainTree.node p r' x (f us)) t) alts
      ∙ ap (λ (x : PlainTrees). with_subtree p (PlainTree.node p r' a' (f x)) t) children

  module _ (d : CutForm) where
    pub element_deleted : (list element : ℕ) → CanDelete tree.form (cut_tree tree c) list element → HasDeleted tree c d element
        → HasChildren list (without element) (cut_tree tree c) (cut_tree tree d) × IsCutOf tree d
    element_deleted list element can did =
        let out = without_leaves_out element can.elements can.is_element in
        let both : (cut_tree tree d ≡ with_subtree list (PlainTree.node list can.rule can.alt (without element can.elements)) (cut_tree tree c))
        × IsCutOf tree d =
        elim can.is_list [
          | inl star ↦ child_gone tree laws are c of d list element can.rule can.alt can.elements
              (RuleForm.star can.symbol) can.symbol did can.node can.is_element star (λ n. refl)
              (of_star list can.rule can.alt can.elements (without element can.elements) can.symbol star out)
          | inr plus ↦
              let fewer = left_out_count can.elements (without element can.elements) out in
              let enough = plus.1 in
              let first = some_first (without element can.elements) (omega (arith, fewer, enough)) in
              child_gone tree laws are c of d list element can.rule can.alt can.elements
              (RuleForm.plus can.symbol) can.symbol did can.node can.is_element plus.0 (λ n. refl)
              (subst (λ (x : PlainTrees). IsLocalDeletion tree.form (PlainTree.node list can.rule can.alt can.elements)
              (PlainTree.node list can.rule can.alt x)) (sym first.2)
              (of_plus list can.rule can.alt can.elements first.0 first.1 can.symbol plus.0 (subst (λ (x : PlainTrees). LeavesOut can.elements x) first.2 out)))
        ] in
        (λ r a ts e. renamed list can.rule can.alt r a can.elements ts (without element) (cut_tree tree c) (cut_tree tree d) (sym can.node ∙ e) both.0, both.1)

    pub content_deleted : (q : ℕ) (can : CanEmpty tree.form (cut_tree tree c) q) → HasDeleted tree c d (number_of can.content)
        → HasChildren q (λ ts. PlainTrees.none) (cut_tree tree c) (cut_tree tree d) × IsCutOf tree d
    content_deleted q can did =
        let gone : without (number_of can.content) (PlainTrees.next can.content PlainTrees.none) ≡ PlainTrees.none =
        when_equal (number_of can.content) (number_of can.content) PlainTrees.none
        (PlainTrees.next can.content (without (number_of can.content) PlainTrees.none)) refl in
        let both =
        child_gone tree laws are c of d q (number_of can.content) can.rule can.alt (PlainTrees.next can.content PlainTrees.none)
        (RuleForm.opt can.symbol) can.symbol did can.node (0, omega arith, refl) can.is_optional (λ n. refl)
        (subst (λ (x : PlainTrees). IsLocalDeletion tree.form (PlainTree.node q can.rule can.alt (PlainTrees.next can.content PlainTrees.none))
        (PlainTree.node q can.rule can.alt x)) (sym gone)
        (of_opt q can.rule can.alt can.content can.symbol can.is_optional)) in (
          λ r a ts e. renamed q can.rule can.alt r a (PlainTrees.next can.content PlainTrees.none) ts (λ us. PlainTrees.none) (cut_tree tree c)
              (cut_tree tree d) (sym can.node ∙ e)
              (both.0 ∙ ap (λ (x : PlainTrees). with_subtree q (PlainTree.node q can.rule can.alt x) (cut_tree tree c)) gone),
          both.1,
        )

    pub node_replaced : (q by : ℕ) → CanReplace tree.form tree.start (cut_tree tree c) q by → HasReplaced tree c d q by →
        ((u : PlainTree) → subtree by (cut_tree tree c) ≡ Some u → cut_tree tree d ≡ with_subtree q u (cut_tree tree c)) × IsCutOf tree d
    node_replaced q by can did =
        let both =
        replaced_cut tree laws are c of d q by can.rule can.alt can.children can.other can.slot can.alternatives did can.node can.slot_is can.other_is can.below
        can.is_regular can.fits in
        (λ u e. both.0 ∙ ap (λ (x : PlainTree). with_subtree q x (cut_tree tree c)) (same_Some can.other u (sym can.other_is ∙ e)), both.1)

  -- the content of an optional is at the position of its first child
  pub content_at : (q : ℕ) (can : CanEmpty tree.form (cut_tree tree c) q) → (q + 1 < length c.marks)
      × ((o : Option ℕ) → IsOccupant c.marks (q + 1) o → o ≡ Some (number_of can.content))
  content_at q can =
      let was = node_was tree laws are c of q (PlainTree.node q can.rule can.alt (PlainTrees.next can.content PlainTrees.none)) can.node in
      let begin = children_begin tree laws are c of q (PlainTree.node q can.rule can.alt (PlainTrees.next can.content PlainTrees.none)) can.node in
      let at = subtree_within 0 (size (whole tree)) (whole tree) (whole_rises tree laws are) q begin.0 begin.1 in
      let own : left_at c.marks q begin.0 ≡ Some (PlainTree.node q can.rule can.alt (PlainTrees.next can.content PlainTrees.none)) =
      sym (left_below c.marks 0 (size (whole tree)) (whole tree) (whole_rises tree laws are) q q begin.0 begin.0 begin.1 (subtree_own q begin.0 at.0))
      ∙ was.0 in
      let node = left_node c.marks q begin.0 can.rule can.alt (PlainTrees.next can.content PlainTrees.none) at.0 was.1 own in
      let slot = laws.nodes_have_slots tree.form tree.start q (whole tree) begin.0 are.whole.valid (whole_numbers tree laws are) begin.1 in
      let valid = subst (λ (x : PlainTree). IsValid tree.form slot.0 x) node.1 slot.2 in
      let children : children_of begin.0 ≡ node.0 = ap children_of node.1 in
      one_child node.0 (optional_children tree.form slot.0 q can.rule can.alt node.0 can.symbol valid can.is_optional)
      (subst (λ (ts : PlainTrees). IsRest (whole tree) (q + 1) ts) children begin.2) (begin.3 ∙ ap (left_of_each c.marks) children)
    where
      only_root : (o : Option ℕ) (n : ℕ) → option_to_list o ++ [] ≡ n ∷ [] → o ≡ Some n
      only_root None n e = absurd (cc)
      only_root (Some m) n e = cc

      one_child : (ts : PlainTrees) → (ts ≡ PlainTrees.none) ⊎ ((t : PlainTree) × (ts ≡ PlainTrees.next t PlainTrees.none)) → IsRest (whole tree) (q + 1) ts
          → PlainTrees.next can.content PlainTrees.none ≡ left_of_each c.marks ts →
          (q + 1 < length c.marks) × ((o : Option ℕ) → IsOccupant c.marks (q + 1) o → o ≡ Some (number_of can.content))
      one_child ts (inl none) is e = absurd (let no : PlainTrees.next can.content PlainTrees.none ≡ PlainTrees.none = e ∙ ap (left_of_each c.marks) none in cc)
      one_child ts (inr some) is e =
          let is' = subst (λ (x : PlainTrees). IsRest (whole tree) (q + 1) x) some.1 is in (
            (position_within tree laws are c of (q + 1) some.0 PlainTrees.none is').0,
            λ o at. only_root o (number_of can.content)
                (children_next tree laws are c of (q + 1) some.0 PlainTrees.none o is' at ∙ ap roots (ap (left_of_each c.marks) (sym some.1) ∙ sym e)),
          )

  pub content_facts : (q : ℕ) (can : CanEmpty tree.form (cut_tree tree c) q) → (u : PlainTree) × NodeFacts tree c (number_of can.content) u
  content_facts q can =
      let it = child_left q (number_of can.content) can.rule can.alt (PlainTrees.next can.content PlainTrees.none) can.node (0, omega arith, refl) in
      (it.0, node_facts tree laws are c of (number_of can.content) it.0 it.1)
