-- Which nodes are at which positions, and the children of a node that are left.
use Rattle.std.proofs.Common.{◌≡◌, ◌⊎◌, inl, inr, ℕ, ◌+◌, ◌-◌, ◌<◌, List, [], ◌++◌, Option, Some, None, length}
use Rattle.std.proofs.Common.{slice_get, refl, sym, ap, ◌∙◌, subst, arith, append_assoc}
use Rattle.std.specs.Prelude.{option_to_list, slice_index_or}
use Rattle.std.specs.Option.{option_map}
use Rattle.std.proofs.lemmas.Bool.{cases_eq}
use Rattle.std.proofs.lemmas.List.{append-nil}
use Rattle.std.proofs.lemmas.Option.{get_or_from_slice_get, none-some, same_Some, slice_get_within}
use Rattle.normal_form.specs.declared.normal.Sym.{Sym}
use Rattle.normal_form.specs.Form.{RuleForm, NormalForm}
use Rattle.syntax_tree.specs.Valid.{IsValid, of_absent, of_plus, of_present, of_regular, of_star}
use Rattle.syntax_tree.specs.Trees.{PlainTree, PlainTrees, children_of, count, renumbered, renumbered_all, size}
use Rattle.syntax_tree.specs.declared.node.Node.{Node}
use Rattle.syntax_tree.specs.Numbered.{number_of, roots, subtree, subtree_among}
use Rattle.syntax_tree.specs.Nodes.{AreNodesOf, SyntaxTree, whole}
use Rattle.syntax_tree_cut.specs.declared.mark.Mark.{Mark}
use Rattle.syntax_tree_cut.specs.declared.mark.Mark.TheVariants.{Kept, Deleted, Replaced}
use Rattle.syntax_tree_cut.specs.Cuts.{CutForm, IsCutOf, IsOccupant, by_mark, cut_tree, deleted, itself, left_among}
use Rattle.syntax_tree_cut.specs.Cuts.{left_at, left_of_each, mark_at, or_next, replaced}
use Rattle.syntax_tree_cut.specs.inner.Cuts.{ReplacementsRise}
use Rattle.syntax_tree_cut.specs.inner.TreeLaws.{TreeLaws}
use Rattle.syntax_tree_cut.specs.inner.Children.{AreSubtrees, IsRest}
use Rattle.syntax_tree_cut.proofs.Rising.{Rises, RiseAll, cases_or, found_among_within, found_within, not_found, or_first}
use Rattle.syntax_tree_cut.proofs.Rising.{or_second, subtree_below, subtree_own, subtree_within, when_not}
use Rattle.syntax_tree_cut.proofs.LeftTrees.{leaf_own, left_below, node_other, node_own}
use Rattle.syntax_tree_cut.proofs.CutEdits.{deeper_found, node_was, none_there, whole_rises}
use Rattle.syntax_tree_cut.proofs.CutFacts.{index_is, nodes_count, root_number, subtree_there}

pub own_number : (marks : List Mark) (q : ℕ) (x : PlainTree) → number_of x ≡ q → mark_at marks q ≡ Kept → option_map number_of (left_at marks q x) ≡ Some q
own_number marks q (PlainTree.leaf n k i) e m =
    ap (option_map number_of) (leaf_own marks q n k i e ∙ ap (λ (y : Mark). by_mark y (PlainTree.leaf n k i) (λ by. None)) (ap (mark_at marks) e ∙ m))
    ∙ ap Some e
own_number marks q (PlainTree.node n r a ts) e m =
    ap (option_map number_of) (node_own marks q n r a ts e
    ∙ ap (λ (y : Mark). by_mark y (PlainTree.node n r a (left_of_each marks ts)) (λ by. left_among marks by ts)) (ap (mark_at marks) e ∙ m)) ∙ ap Some e

-- what replaces a node leaves what it leaves
pub replaced_leaves : (marks : List Mark) (q by : ℕ) (low high : ℕ) (x w : PlainTree) → Rises low high x → number_of x ≡ q → mark_at marks q ≡ Replaced
    by → subtree_among by (children_of x) ≡ Some w →
    (left_at marks q x ≡ left_at marks by x) × (subtree by x ≡ Some w)
replaced_leaves marks q by low high (PlainTree.leaf n k i) w h e m f = absurd (none-some w f)
replaced_leaves marks q by low high (PlainTree.node n r a ts) w h e m f =
    let within = found_among_within (n + 1) high ts h.1 by w f in
    let other : n ≡ by → ⊥ = λ g. omega (arith, g, within) in (
      node_own marks q n r a ts e ∙ ap (λ (y : Mark). by_mark y (PlainTree.node n r a (left_of_each marks ts)) (λ by. left_among marks by ts))
          (ap (mark_at marks) e ∙ m) ∙ sym (node_other marks by n r a ts other),
      subtree_below by n r a ts other ∙ f,
    )

children_rise : (low high : ℕ) (x : PlainTree) → Rises low high x → RiseAll (number_of x + 1) high (children_of x)
children_rise low high (PlainTree.leaf n k i) h = omega (arith, h.1)
children_rise low high (PlainTree.node n r a ts) h = h.1

-- what is found in a numbered tree is numbered
mutual
  pub subtree_numbered : (n q : ℕ) (t u : PlainTree) → renumbered n t ≡ t → subtree q t ≡ Some u → renumbered q u ≡ u
  subtree_numbered n q (PlainTree.leaf m k i) u e f =
      let same : n ≡ m = cc in
      elim (cases_eq m q) [
        | inl is ↦
            let leaf : PlainTree.leaf m k i ≡ u = same_Some (PlainTree.leaf m k i) u (sym (subtree_own q (PlainTree.leaf m k i) is) ∙ f) in
            subst (λ (x : PlainTree). renumbered q x ≡ x) leaf (subst (λ (p : ℕ). renumbered p (PlainTree.leaf m k i) ≡ PlainTree.leaf m k i) (same ∙ is) e)
        | inr other ↦ absurd (none-some u (sym (when_not m q (Some (PlainTree.leaf m k i)) None other) ∙ f))
      ]
  subtree_numbered n q (PlainTree.node m r a ts) u e f =
      let same : n ≡ m = cc in
      let below : renumbered_all (n + 1) ts ≡ ts = cc in
      elim (cases_eq m q) [
        | inl is ↦
            let node : PlainTree.node m r a ts ≡ u = same_Some (PlainTree.node m r a ts) u (sym (subtree_own q (PlainTree.node m r a ts) is) ∙ f) in
            subst (λ (x : PlainTree). renumbered q x ≡ x) node
            (subst (λ (p : ℕ). renumbered p (PlainTree.node m r a ts) ≡ PlainTree.node m r a ts) (same ∙ is) e)
        | inr other ↦ subtree_among_numbered (n + 1) q ts u below (sym (subtree_below q m r a ts other) ∙ f)
      ]

  pub subtree_among_numbered : (n q : ℕ) (ts : PlainTrees) (u : PlainTree) → renumbered_all n ts ≡ ts → subtree_among q ts ≡ Some u → renumbered q u ≡ u
  subtree_among_numbered n q PlainTrees.none u e f = absurd (none-some u f)
  subtree_among_numbered n q (PlainTrees.next t ts) u e f =
      let first : renumbered n t ≡ t = cc in
      let later : renumbered_all (n + size t) ts ≡ ts = cc in
      elim (cases_or (subtree q t) (subtree_among q ts) u f) [
        | inl found ↦ subtree_numbered n q t u first found
        | inr both ↦ subtree_among_numbered (n + size t) q ts u later both.1
      ]

children_found : (find : ℕ → Option PlainTree) (t : PlainTree) (low high : ℕ) (us : PlainTrees) → RiseAll low high us
    → ((q : ℕ) (u : PlainTree) → subtree_among q us ≡ Some u → subtree q t ≡ Some u) → AreSubtrees t us
children_found find t low high PlainTrees.none h each = tt
children_found find t low high (PlainTrees.next u us) h each = (
  each (number_of u) u (or_first (subtree (number_of u) u) (subtree_among (number_of u) us) u (subtree_own (number_of u) u refl)),
  children_found find t h.0 high us h.2 (λ q v e. each q v
      (let within = found_among_within h.0 high us h.2 q v e in or_second (subtree q u) (subtree_among q us) (not_found low h.0 u h.1 q (inr within.0)) ∙ e)),
)

pub rest_next : (t : PlainTree) (position : ℕ) (u : PlainTree) (us : PlainTrees) → IsRest t position (PlainTrees.next u us) → (number_of u ≡ position)
    × (subtree position t ≡ Some u) × IsRest t (position + size u) us
rest_next t position u us is =
    let numbered = is.numbered in
    let first : renumbered position u ≡ u = cc in
    let later : renumbered_all (position + size u) us ≡ us = cc in
    let number = root_number position u first in
    (number, subst (λ (q : ℕ). subtree q t ≡ Some u) number is.found.0, record { numbered = later; found = is.found.1 })

children_numbered : (q : ℕ) (x : PlainTree) → renumbered q x ≡ x → renumbered_all (q + 1) (children_of x) ≡ children_of x
children_numbered q (PlainTree.leaf n k i) e = refl
children_numbered q (PlainTree.node n r a ts) e = cc

-- the children of what is left of a node that is itself left
left_children : (marks : List Mark) (q : ℕ) (x u : PlainTree) → number_of x ≡ q → mark_at marks q ≡ Kept → left_at marks q x ≡ Some u
    → children_of u ≡ left_of_each marks (children_of x)
left_children marks q (PlainTree.leaf n k i) u e m f =
    ap children_of
    (sym (same_Some (PlainTree.leaf n k i) u
    (ap (λ (y : Mark). by_mark y (PlainTree.leaf n k i) (λ by. None)) (sym m ∙ ap (mark_at marks) (sym e)) ∙ sym (leaf_own marks q n k i e) ∙ f)))
left_children marks q (PlainTree.node n r a ts) u e m f =
    ap children_of
    (sym (same_Some (PlainTree.node n r a (left_of_each marks ts)) u
    (ap (λ (y : Mark). by_mark y (PlainTree.node n r a (left_of_each marks ts)) (λ by. left_among marks by ts)) (sym m ∙ ap (mark_at marks) (sym e))
    ∙ sym (node_own marks q n r a ts e) ∙ f)))

-- a node that is left is itself a node
pub left_node : (marks : List Mark) (q : ℕ) (x : PlainTree) (r a : ℕ) (us : PlainTrees) → number_of x ≡ q → mark_at marks q ≡ Kept
    → left_at marks q x ≡ Some (PlainTree.node q r a us) → (ts : PlainTrees) × (x ≡ PlainTree.node q r a ts)
left_node marks q (PlainTree.leaf n k i) r a us e m f =
    let is : Some (PlainTree.leaf n k i) ≡ Some (PlainTree.node q r a us) =
    ap (λ (y : Mark). by_mark y (PlainTree.leaf n k i) (λ by. None)) (sym m ∙ ap (mark_at marks) (sym e)) ∙ sym (leaf_own marks q n k i e) ∙ f in
    absurd (cc)
left_node marks q (PlainTree.node n r' a' ts) r a us e m f =
    let is : Some (PlainTree.node n r' a' (left_of_each marks ts)) ≡ Some (PlainTree.node q r a us) =
    ap (λ (y : Mark). by_mark y (PlainTree.node n r' a' (left_of_each marks ts)) (λ by. left_among marks by ts)) (sym m ∙ ap (mark_at marks) (sym e))
    ∙ sym (node_own marks q n r' a' ts e) ∙ f in
    (ts, cc)

-- an optional has one child at most
pub optional_children : (N : NormalForm) (s : Sym) (n r a : ℕ) (ts : PlainTrees) (y : Sym) → IsValid N s (PlainTree.node n r a ts)
    → slice_get N.rules r ≡ Some (RuleForm.opt y) → (ts ≡ PlainTrees.none) ⊎ ((t : PlainTree) × (ts ≡ PlainTrees.next t PlainTrees.none))
optional_children N s n r a ts y (of_regular s' n' r' a' ts' alts alt fits rule at valid) e =
    absurd (let both : Some (RuleForm.regular alts) ≡ Some (RuleForm.opt y) = sym rule ∙ e in cc)
optional_children N s n r a ts y (of_absent s' n' r' x fits rule) e = inl refl
optional_children N s n r a ts y (of_present s' n' r' t x fits rule valid) e = inr (t, refl)
optional_children N s n r a ts y (of_star s' n' r' ts' x fits rule each) e =
    absurd (let both : Some (RuleForm.star x) ≡ Some (RuleForm.opt y) = sym rule ∙ e in cc)
optional_children N s n r a ts y (of_plus s' n' r' t ts' x fits rule each) e =
    absurd (let both : Some (RuleForm.plus x) ≡ Some (RuleForm.opt y) = sym rule ∙ e in cc)

roots_next : (o : Option PlainTree) (ts : PlainTrees) → option_to_list (option_map number_of o) ++ roots ts ≡ roots (or_next o ts)
roots_next None ts = refl
roots_next (Some t) ts = refl

-- The children of a node before a position are done, and so many are still to come.
pub record IsWalk (tree : SyntaxTree) (c : CutForm) (q position remaining : ℕ) (done : List ℕ) : Type 0 where
  pub rest : PlainTrees
  pub is_rest : IsRest (whole tree) position rest
  pub as_many : count rest ≡ remaining
  pub together : (u : PlainTree) → subtree q (cut_tree tree c) ≡ Some u → done ++ roots (left_of_each c.marks rest) ≡ roots (children_of u)

-- These children are added to a list.
pub record HasAdded (tree : SyntaxTree) (c : CutForm) (q position remaining : ℕ) (old new : List ℕ) : Type 0 where
  pub done : List ℕ
  pub walk : IsWalk tree c q position remaining done
  pub new_is : new ≡ old ++ done

module _ (tree : SyntaxTree) (laws : TreeLaws) (are : AreNodesOf tree.form tree.start tree.nodes (whole tree)) (c : CutForm) (of : IsCutOf tree c) where
  pub occupant_is : (q : ℕ) (o : Option ℕ) → IsOccupant c.marks q o → (x : PlainTree) → subtree q (whole tree) ≡ Some x
      → option_map number_of (left_at c.marks q (whole tree)) ≡ o
  occupant_is q o (itself q' m) x e =
      let at = subtree_within 0 (size (whole tree)) (whole tree) (whole_rises tree laws are) q x e in
      ap (option_map number_of) (left_below c.marks 0 (size (whole tree)) (whole tree) (whole_rises tree laws are) q q x x e (subtree_own q x at.0))
      ∙ own_number c.marks q x at.0 (get_or_from_slice_get c.marks q Kept Kept m)
  occupant_is q o (deleted q' m) x e =
      let at = subtree_within 0 (size (whole tree)) (whole tree) (whole_rises tree laws are) q x e in
      ap (option_map number_of) (left_below c.marks 0 (size (whole tree)) (whole tree) (whole_rises tree laws are) q q x x e (subtree_own q x at.0)
      ∙ none_there c.marks q x at.0 (get_or_from_slice_get c.marks q Deleted Kept m))
  occupant_is q o (replaced q' by o' m rest) x e =
      let at = subtree_within 0 (size (whole tree)) (whole tree) (whole_rises tree laws are) q x e in
      let mark : mark_at c.marks q ≡ Replaced by = get_or_from_slice_get c.marks q (Replaced by) Kept m in
      let down = of.down q by x e mark in
      let leaves_it = replaced_leaves c.marks q by q (size (whole tree)) x down.0 at.1 at.0 mark down.1 in
      ap (option_map number_of)
      (left_below c.marks 0 (size (whole tree)) (whole tree) (whole_rises tree laws are) q q x x e (subtree_own q x at.0)
      ∙ leaves_it.0
      ∙ sym (left_below c.marks 0 (size (whole tree)) (whole tree) (whole_rises tree laws are) q by x down.0 e leaves_it.1))
      ∙ occupant_is by o rest down.0 (deeper_found 0 (size (whole tree)) (whole tree) (whole_rises tree laws are) q by x down.0 e leaves_it.1)

  pub replacements_rise : ReplacementsRise c.marks
  replacements_rise q by m =
      let lt = slice_get_within c.marks q (Replaced by) m in
      let count = of.for_each in
      let there = subtree_there 0 q (whole tree) are.whole.numbered (omega arith) (omega (arith, lt, count)) in
      let at = subtree_within 0 (size (whole tree)) (whole tree) (whole_rises tree laws are) q there.0 there.1 in
      let down = of.down q by there.0 there.1 (get_or_from_slice_get c.marks q (Replaced by) Kept m) in
      let within =
      found_among_within (number_of there.0 + 1) (size (whole tree)) (children_of there.0) (children_rise q (size (whole tree)) there.0 at.1)
      by down.0 down.1 in
      let number = at.0 in
      (omega (arith, within, number), omega (arith, within, count))

  -- the positions of the children of a node that is left
  pub children_begin : (q : ℕ) (u : PlainTree) → subtree q (cut_tree tree c) ≡ Some u → (x : PlainTree) × (subtree q (whole tree) ≡ Some x)
      × IsRest (whole tree) (q + 1) (children_of x) × (children_of u ≡ left_of_each c.marks (children_of x))
  children_begin q u e =
      let was = node_was tree laws are c of q u e in
      let x : PlainTree = was.3.0 in
      let at = subtree_within 0 (size (whole tree)) (whole tree) (whole_rises tree laws are) q x was.3.1 in
      let own : left_at c.marks q x ≡ Some u =
      sym (left_below c.marks 0 (size (whole tree)) (whole tree) (whole_rises tree laws are) q q x x was.3.1 (subtree_own q x at.0)) ∙ was.0 in
      let each : (p : ℕ) (v : PlainTree) → subtree_among p (children_of x) ≡ Some v → subtree p (whole tree) ≡ Some v =
      λ p v f. deeper_found 0 (size (whole tree)) (whole tree) (whole_rises tree laws are) q p x v was.3.1 (below_found q x at.1 p v f) in (
        x,
        was.3.1,
        record {
          numbered = children_numbered q x (subtree_numbered 0 q (whole tree) x are.whole.numbered was.3.1);
          found =
              children_found (λ p. None) (whole tree) (number_of x + 1) (size (whole tree)) (children_of x) (children_rise q (size (whole tree)) x at.1) each;
        },
        left_children c.marks q x u at.0 was.1 own,
      )
    where
      below_found : (q : ℕ) (x : PlainTree) → Rises q (size (whole tree)) x → (p : ℕ) (v : PlainTree) → subtree_among p (children_of x) ≡ Some v
          → subtree p x ≡ Some v
      below_found q (PlainTree.leaf n k i) h p v f = absurd (none-some v f)
      below_found q (PlainTree.node n r a ts) h p v f =
          let within = found_among_within (n + 1) (size (whole tree)) ts h.1 p v f in
          subtree_below p n r a ts (λ (g : n ≡ p). omega (arith, g, within)) ∙ f

  -- one more position
  pub children_next : (position : ℕ) (t : PlainTree) (ts : PlainTrees) (o : Option ℕ) → IsRest (whole tree) position (PlainTrees.next t ts)
      → IsOccupant c.marks position o →
      option_to_list o ++ roots (left_of_each c.marks ts) ≡ roots (left_of_each c.marks (PlainTrees.next t ts))
  children_next position t ts o is at =
      let next = rest_next (whole tree) position t ts is in
      let number = occupant_is position o at t next.1 in
      let here : left_at c.marks position (whole tree) ≡ left_at c.marks (number_of t) t =
      left_below c.marks 0 (size (whole tree)) (whole tree) (whole_rises tree laws are) position position t t next.1 (subtree_own position t next.0)
      ∙ ap (λ (p : ℕ). left_at c.marks p t) (sym next.0) in
      ap (λ (x : Option ℕ). option_to_list x ++ roots (left_of_each c.marks ts)) (sym number ∙ ap (option_map number_of) here)
      ∙ roots_next (left_at c.marks (number_of t) t) (left_of_each c.marks ts)

  pub position_within : (position : ℕ) (t : PlainTree) (ts : PlainTrees) → IsRest (whole tree) position (PlainTrees.next t ts) → (position < length c.marks)
      × (position < length tree.nodes)
  position_within position t ts is =
      let next = rest_next (whole tree) position t ts is in
      let within = found_within 0 (size (whole tree)) (whole tree) (whole_rises tree laws are) position t next.1 in
      let marks = of.for_each in
      let nodes = nodes_count tree laws are in
      (omega (arith, within, marks), omega (arith, within, nodes))

  pub walk_begin : (q : ℕ) (u : PlainTree) (x : Node) → subtree q (cut_tree tree c) ≡ Some u → slice_get tree.nodes q ≡ Some x
      → IsWalk tree c q (q + 1) x.children []
  walk_begin q u x e at =
      let begin = children_begin q u e in
      let node = laws.nodes_are_subtrees tree are q x at in
      let same : node.0 ≡ begin.0 = same_Some node.0 begin.0 (sym node.1.subtree_is ∙ begin.1) in
      record {
        rest = children_of begin.0;
        is_rest = begin.2;
        as_many = ap (λ (t : PlainTree). count (children_of t)) (sym same) ∙ sym node.1.children;
        together = λ v f. ap roots (sym begin.3 ∙ ap children_of (same_Some u v (sym e ∙ f)));
      }

  pub walk_begin_at : (q : ℕ) (u : PlainTree) (nodes : List Node) (d : Node) (done : List ℕ) → subtree q (cut_tree tree c) ≡ Some u → nodes ≡ tree.nodes
      → q < length tree.nodes → done ≡ [] → IsWalk tree c q (q + 1) (slice_index_or nodes q d).children done
  walk_begin_at q u nodes d done e same lt none =
      subst (λ (l : List ℕ). IsWalk tree c q (q + 1) (slice_index_or nodes q d).children l) (sym none)
      (walk_begin q u (slice_index_or nodes q d) e (index_is tree.nodes nodes q d same lt))

  walk_on : (q position remaining : ℕ) (done : List ℕ) (rest : PlainTrees) → IsRest (whole tree) position rest → count rest ≡ remaining
      → ((u : PlainTree) → subtree q (cut_tree tree c) ≡ Some u → done ++ roots (left_of_each c.marks rest) ≡ roots (children_of u)) →
      0 < remaining → (o : Option ℕ) → IsOccupant c.marks position o → (x : PlainTree) → subtree position (whole tree) ≡ Some x
      → IsWalk tree c q (position + size x) (remaining - 1) (done ++ option_to_list o)
  walk_on q position remaining done PlainTrees.none is many together some o at x e = absurd (omega (arith, many, some))
  walk_on q position remaining done (PlainTrees.next t ts) is many together some o at x e =
      let next = rest_next (whole tree) position t ts is in
      let same : t ≡ x = same_Some t x (sym next.1 ∙ e) in
      record {
        rest = ts;
        is_rest = subst (λ (v : PlainTree). IsRest (whole tree) (position + size v) ts) same next.2;
        as_many = omega (arith, many, some);
        together =
            λ u f. append_assoc done (option_to_list o) (roots (left_of_each c.marks ts)) ∙ ap (λ (l : List ℕ). done ++ l) (children_next position t ts o is at)
            ∙ together u f;
      }

  pub walk_next : (q position remaining : ℕ) (done : List ℕ) → IsWalk tree c q position remaining done → 0 < remaining → (o : Option ℕ)
      → IsOccupant c.marks position o → (x : PlainTree) → subtree position (whole tree) ≡ Some x →
      IsWalk tree c q (position + size x) (remaining - 1) (done ++ option_to_list o)
  walk_next q position remaining done walk some o at x e = walk_on q position remaining done walk.rest walk.is_rest walk.as_many walk.together some o at x e

  within_on : (position remaining : ℕ) (rest : PlainTrees) → IsRest (whole tree) position rest → count rest ≡ remaining → 0 < remaining
      → (position < length c.marks) × (position < length tree.nodes)
  within_on position remaining PlainTrees.none is many some = absurd (omega (arith, many, some))
  within_on position remaining (PlainTrees.next t ts) is many some = position_within position t ts is

  pub walk_within : (q position remaining : ℕ) (done : List ℕ) → IsWalk tree c q position remaining done → 0 < remaining → (position < length c.marks)
      × (position < length tree.nodes)
  walk_within q position remaining done walk some = within_on position remaining walk.rest walk.is_rest walk.as_many some

  end_on : (q position : ℕ) (done : List ℕ) (u : PlainTree) (rest : PlainTrees) → count rest ≡ 0
      → done ++ roots (left_of_each c.marks rest) ≡ roots (children_of u) → done ≡ roots (children_of u)
  end_on q position done u PlainTrees.none many together = sym (append-nil done) ∙ together
  end_on q position done u (PlainTrees.next t ts) many together = absurd (omega (arith, many))

  pub walk_end : (q position remaining : ℕ) (done : List ℕ) (u : PlainTree) → IsWalk tree c q position remaining done → remaining ≡ 0
      → subtree q (cut_tree tree c) ≡ Some u → done ≡ roots (children_of u)
  walk_end q position remaining done u walk none e = end_on q position done u walk.rest (walk.as_many ∙ none) (walk.together u e)

  pub add_begin : (q : ℕ) (u : PlainTree) (nodes : List Node) (d : Node) (old : List ℕ) → subtree q (cut_tree tree c) ≡ Some u → nodes ≡ tree.nodes
      → q < length tree.nodes → HasAdded tree c q (q + 1) (slice_index_or nodes q d).children old old
  add_begin q u nodes d old e same lt = record { done = []; walk = walk_begin_at q u nodes d [] e same lt refl; new_is = sym (append-nil old) }

  pub add_next : (q position next remaining : ℕ) (old so_far new : List ℕ) → HasAdded tree c q position remaining old so_far → 0 < remaining → (o : Option ℕ)
      → {marks : List Mark} → marks ≡ c.marks → IsOccupant marks position o → new ≡ so_far ++ option_to_list o →
      (x : PlainTree) → subtree position (whole tree) ≡ Some x → next ≡ position + size x → HasAdded tree c q next (remaining - 1) old new
  add_next q position next remaining old so_far new added some o marks_are at more x e next_is =
      let done = added.done ++ option_to_list o in
      let walk = walk_next q position remaining added.done added.walk some o (subst (λ (l : List Mark). IsOccupant l position o) marks_are at) x e in
      record {
        done = done;
        walk = subst (λ (p : ℕ). IsWalk tree c q p (remaining - 1) done) (sym next_is) walk;
        new_is = more ∙ ap (λ (l : List ℕ). l ++ option_to_list o) added.new_is ∙ append_assoc old added.done (option_to_list o);
      }

  pub add_end : (q position remaining : ℕ) (old new : List ℕ) (u : PlainTree) → HasAdded tree c q position remaining old new → remaining ≡ 0
      → subtree q (cut_tree tree c) ≡ Some u → new ≡ old ++ roots (children_of u)
  add_end q position remaining old new u added none e =
      added.new_is ∙ ap (λ (l : List ℕ). old ++ l) (walk_end q position remaining added.done u added.walk none e)
