-- Edits of cuts give the trees that they should, and cuts again.
use Rattle.std.proofs.Common.{◌≡◌, inl, inr, ℕ, ◌+◌, ◌<◌, List, ◌++◌, Option, Some, None, length, slice_get, refl, sym, ap, ◌∙◌, subst, arith, append_assoc}
use Rattle.std.specs.Prelude.{Bool, not, nat_le, nat_lt, replicate, slice_set, IsSome}
use Rattle.std.specs.List.{Contains, filter}
use Rattle.std.specs.Option.{is_some, option_and_then, option_map, option_map_or}
use Rattle.std.proofs.lemmas.Bool.{cases_eq}
use Rattle.std.proofs.lemmas.List.{get_or-set_same, get_or-set_other, length-set}
use Rattle.std.proofs.lemmas.Option.{get_or_from_slice_get, none-some, same_Some, slice_get-get_or, slice_get_within}
use Rattle.normal_form.specs.declared.normal.Sym.{Sym}
use Rattle.normal_form.specs.Form.{RuleForm, NormalForm}
use Rattle.compat_table.specs.Fits.{Fits}
use Rattle.syntax_tree.specs.declared.node.Node.{Node}
use Rattle.syntax_tree.specs.Trees.{PlainTree, PlainTrees, IsBelow, IsIn, IsInSome, children_of, count, leaves, of_leaves_all, size, symbol_of}
use Rattle.syntax_tree.specs.Trees as trees
use Rattle.syntax_tree.specs.Numbered.{NumbersRise, number_of, roots, subtree, subtree_among, with_subtree}
use Rattle.syntax_tree.specs.Valid.{IsTreeFor, IsValid, slot_among, slot_at, slots_of, slots_of_form}
use Rattle.syntax_tree.specs.Nodes.{AreNodesOf, SyntaxTree, whole}
use Rattle.syntax_tree.specs.Edits.{IsLocalDeletion, by_descendant}
use Rattle.syntax_tree.specs.Left.{IsRemainderOf}
use Rattle.syntax_tree.specs.LeftLaws.{AreLeavesInSpan, is_within}
use Rattle.syntax_tree_cut.specs.declared.mark.Mark.{Mark}
use Rattle.syntax_tree_cut.specs.declared.mark.Mark.TheVariants.{Kept, Deleted, Replaced}
use Rattle.syntax_tree_cut.specs.inner.Tokens.{before, from_on, within}
use Rattle.syntax_tree_cut.specs.Cuts.{CutForm, IsCutOf, ReplacementsGoDown, by_mark, cut_tree, left_among, left_at, left_of_each, mark_at, slot_of, without}
use Rattle.syntax_tree_cut.specs.inner.TreeLaws.{TreeLaws}
use Rattle.syntax_tree_cut.specs.inner.Steps.{HasDeleted, HasReplaced}
use Rattle.syntax_tree_cut.proofs.Rising.{Rises, RiseAll, cases_option, cases_or, found_among_within, found_within, not_found, or_first}
use Rattle.syntax_tree_cut.proofs.Rising.{or_second, rises_from, subtree_below, subtree_own, subtree_within, when_equal, when_not}
use Rattle.syntax_tree_cut.proofs.LeftTrees.{among_rises, leaf_own, left_among_there, left_below, left_rises}
use Rattle.syntax_tree_cut.proofs.LeftTrees.{left_there, node_own, own_left, own_of_each, part_left}
use Rattle.syntax_tree_cut.proofs.EditedTrees.{edited, edited_outside, edited_with, left_among_edited, left_edited}
use Rattle.syntax_tree_cut.proofs.Deletions.{child_deleted, child_found, child_within, leaves_without, node_slots}
use Rattle.syntax_tree_cut.proofs.Deletions.{slot_there, slots_are, slots_without, with_itself}
use Rattle.syntax_tree_cut.proofs.Spans.{cut_out}

-- a list with one other element
pub get_set_same : {A : Type 0} (xs : List A) (q : ℕ) (x : A) → q < length xs → slice_get (slice_set xs q x) q ≡ Some x
get_set_same xs q x lt =
    slice_get-get_or (slice_set xs q x) q x (let e = length-set xs q x in omega (arith, lt, e)) ∙ ap Some (get_or-set_same xs q x x lt)

pub get_set_other : {A : Type 0} (xs : List A) (q p : ℕ) (x y : A) → (p ≡ q → ⊥) → slice_get xs p ≡ Some y → slice_get (slice_set xs q x) p ≡ Some y
get_set_other xs q p x y other e =
    let lt = slice_get_within xs p y e in
    slice_get-get_or (slice_set xs q x) p y (let f = length-set xs q x in omega (arith, lt, f))
    ∙ ap Some (get_or-set_other xs q p x y other ∙ get_or_from_slice_get xs p y y e)

-- nothing is left of a node that is marked as deleted
pub none_there : (marks : List Mark) (q : ℕ) (x : PlainTree) → number_of x ≡ q → mark_at marks q ≡ Deleted → left_at marks q x ≡ None
none_there marks q (PlainTree.leaf n k i) e m =
    leaf_own marks q n k i e ∙ ap (λ (y : Mark). by_mark y (PlainTree.leaf n k i) (λ by. None)) (ap (mark_at marks) e ∙ m)
none_there marks q (PlainTree.node n r a ts) e m =
    node_own marks q n r a ts e ∙ ap (λ (y : Mark). by_mark y (PlainTree.node n r a (left_of_each marks ts)) (λ by. left_among marks by ts))
    (ap (mark_at marks) e ∙ m)

-- what is below a tree is found by its number
mutual
  pub in_found : (low high : ℕ) (t : PlainTree) → Rises low high t → (u : PlainTree) → IsIn u t → subtree (number_of u) t ≡ Some u
  in_found low high (PlainTree.leaf n k i) h u (trees.itself t) = subtree_own n (PlainTree.leaf n k i) refl
  in_found low high (PlainTree.node n r a ts) h u (trees.itself t) = subtree_own n (PlainTree.node n r a ts) refl
  in_found low high (PlainTree.node n r a ts) h u (trees.below u' n' r' a' ts' some) =
      let deeper = in_some_found (n + 1) high ts h.1 u some in
      let within = found_among_within (n + 1) high ts h.1 (number_of u) u deeper in
      subtree_below (number_of u) n r a ts (λ (e : n ≡ number_of u). omega (arith, e, within)) ∙ deeper

  pub in_some_found : (low high : ℕ) (ts : PlainTrees) → RiseAll low high ts → (u : PlainTree) → IsInSome u ts → subtree_among (number_of u) ts ≡ Some u
  in_some_found low high PlainTrees.none h u is = elim is [ ]
  in_some_found low high (PlainTrees.next t ts) h u (trees.in_first u' t' ts' is) =
      or_first (subtree (number_of u) t) (subtree_among (number_of u) ts) u (in_found low h.0 t h.1 u is)
  in_some_found low high (PlainTrees.next t ts) h u (trees.in_later u' t' ts' is) =
      let deeper = in_some_found h.0 high ts h.2 u is in
      let within = found_among_within h.0 high ts h.2 (number_of u) u deeper in
      or_second (subtree (number_of u) t) (subtree_among (number_of u) ts) (not_found low h.0 t h.1 (number_of u) (inr within.0)) ∙ deeper

-- what is found below what is found is found
mutual
  pub deeper_found : (low high : ℕ) (t : PlainTree) → Rises low high t → (p q : ℕ) (x y : PlainTree) → subtree p t ≡ Some x → subtree q x ≡ Some y
      → subtree q t ≡ Some y
  deeper_found low high (PlainTree.leaf n k i) h p q x y e f =
      elim (cases_eq n p) [
        | inl same ↦ subst (λ z. subtree q z ≡ Some y) (sym (same_Some (PlainTree.leaf n k i) x (sym (subtree_own p (PlainTree.leaf n k i) same) ∙ e))) f
        | inr other ↦ absurd (none-some x (sym (when_not n p (Some (PlainTree.leaf n k i)) None other) ∙ e))
      ]
  deeper_found low high (PlainTree.node n r a ts) h p q x y e f =
      elim (cases_eq n p) [
        | inl same ↦ subst (λ z. subtree q z ≡ Some y) (sym (same_Some (PlainTree.node n r a ts) x (sym (subtree_own p (PlainTree.node n r a ts) same) ∙ e))) f
        | inr other ↦
            let deeper = deeper_found_among (n + 1) high ts h.1 p q x y (sym (subtree_below p n r a ts other) ∙ e) f in
            let within = found_among_within (n + 1) high ts h.1 q y deeper in
            subtree_below q n r a ts (λ (g : n ≡ q). omega (arith, g, within)) ∙ deeper
      ]

  pub deeper_found_among : (low high : ℕ) (ts : PlainTrees) → RiseAll low high ts → (p q : ℕ) (x y : PlainTree) → subtree_among p ts ≡ Some x
      → subtree q x ≡ Some y → subtree_among q ts ≡ Some y
  deeper_found_among low high PlainTrees.none h p q x y e f = absurd (none-some x e)
  deeper_found_among low high (PlainTrees.next t ts) h p q x y e f =
      elim (cases_or (subtree p t) (subtree_among p ts) x e) [
        | inl found ↦ or_first (subtree q t) (subtree_among q ts) y (deeper_found low h.0 t h.1 p q x y found f)
        | inr both ↦
            let deeper = deeper_found_among h.0 high ts h.2 p q x y both.1 f in
            let within = found_among_within h.0 high ts h.2 q y deeper in
            or_second (subtree q t) (subtree_among q ts) (not_found low h.0 t h.1 q (inr within.0)) ∙ deeper
      ]

module _ (N : NormalForm) where
  own_slot : (x : Sym) (q : ℕ) (u : PlainTree) → number_of u ≡ q → slot_at N x q u ≡ Some x
  own_slot x q (PlainTree.leaf n k i) e = when_equal n q (Some x) None e
  own_slot x q (PlainTree.node n r a ts) e = when_equal n q (Some x) (slot_among N (slots_of N r a ts) q ts) e

  other_slot : (x y : Sym) (q : ℕ) (u : PlainTree) → (number_of u ≡ q → ⊥) → slot_at N x q u ≡ slot_at N y q u
  other_slot x y q (PlainTree.leaf n k i) e = when_not n q (Some x) None e ∙ sym (when_not n q (Some y) None e)
  other_slot x y q (PlainTree.node n r a ts) e =
      when_not n q (Some x) (slot_among N (slots_of N r a ts) q ts) e ∙ sym (when_not n q (Some y) (slot_among N (slots_of N r a ts) q ts) e)

same_by : (m n : ℕ) → Replaced m ≡ Replaced n → m ≡ n
same_by m n e = cc

-- the slot of a position
abbrev pub slot_at_position : SyntaxTree → Option ℕ → Option Sym
slot_at_position tree o = option_map (λ (x : Node). x.slot) (option_and_then (λ p. slice_get tree.nodes p) o)

not_replaced : (by : ℕ) → Deleted ≡ Replaced by → ⊥
not_replaced by e = cc

-- what is left where a node is replaced by one below it
replaced_there : (marks marks' : List Mark) (q by : ℕ) → ((p : ℕ) → (p ≡ q → ⊥) → mark_at marks' p ≡ mark_at marks p) → mark_at marks q ≡ Kept
    → mark_at marks' q ≡ Replaced by →
    (low high : ℕ) (z : PlainTree) → Rises low high z → number_of z ≡ q → (r a : ℕ) (us : PlainTrees) (u : PlainTree)
    → left_at marks q z ≡ Some (PlainTree.node q r a us) → subtree_among by us ≡ Some u →
    (left_at marks' q z ≡ Some u) × ((w : PlainTree) × (subtree_among by (children_of z) ≡ Some w))
replaced_there marks marks' q by others was now low high (PlainTree.leaf n k i) h same r a us u e f =
    let is : Some (PlainTree.leaf n k i) ≡ Some (PlainTree.node q r a us) =
    ap (λ (m : Mark). by_mark m (PlainTree.leaf n k i) (λ by. None)) (sym was ∙ ap (mark_at marks) (sym same)) ∙ sym (leaf_own marks q n k i same) ∙ e in
    absurd (cc)
replaced_there marks marks' q by others was now low high (PlainTree.node n r' a' ts) h same r a us u e f =
    let is : Some (PlainTree.node n r' a' (left_of_each marks ts)) ≡ Some (PlainTree.node q r a us) =
    ap (λ (m : Mark). by_mark m (PlainTree.node n r' a' (left_of_each marks ts)) (λ by. left_among marks by ts)) (sym was ∙ ap (mark_at marks) (sym same))
    ∙ sym (node_own marks q n r' a' ts same) ∙ e in
    let each : us ≡ left_of_each marks ts = cc in
    let own = own_of_each marks (n + 1) high ts h.1 by u (ap (subtree_among by) (sym each) ∙ f) in
    let outside : (x : PlainTree) → subtree_among q ts ≡ Some x → left_at marks' q x ≡ None =
    λ x g. absurd (let within = found_among_within (n + 1) high ts h.1 q x g in omega (arith, within, same)) in (
      node_own marks' q n r' a' ts same
          ∙ ap (λ (m : Mark). by_mark m (PlainTree.node n r' a' (left_of_each marks' ts)) (λ by. left_among marks' by ts)) (ap (mark_at marks') same ∙ now)
          ∙ left_among_edited marks marks' q None others was (n + 1) high ts h.1 outside by
          ∙ ap (option_and_then (edited q None)) own.0
          ∙ edited_outside q None (n + 1) high u (among_rises marks (n + 1) high ts h.1 by u own.0) (inl (omega (arith, same))),
      left_among_there marks by ts u own.0,
    )

pub some_is : {A : Type 0} (o : Option A) (x : A) → o ≡ Some x → IsSome o
some_is o x e = ap is_some e

-- two parts of a list that has a third between them
pub apart_again : (f : ℕ → Bool) (front middle back front' back' all : List ℕ) → middle ≡ filter f all → all ≡ front ++ (middle ++ back)
    → all ≡ front' ++ (middle ++ back') → front ++ back ≡ front' ++ back'
apart_again f front middle back front' back' all is e e' =
    sym (cut_out f front middle back (is ∙ ap (filter f) e))
    ∙ ap (filter (λ x. not (f x))) (sym e ∙ e')
    ∙ cut_out f front' middle back' (is ∙ ap (filter f) e')

module _ (tree : SyntaxTree) (laws : TreeLaws) (are : AreNodesOf tree.form tree.start tree.nodes (whole tree)) where
  pub whole_rises : Rises 0 (size (whole tree)) (whole tree)
  whole_rises = rises_from 0 (size (whole tree)) (whole tree) are.whole.numbered (omega arith)

  pub whole_numbers : NumbersRise (whole tree)
  whole_numbers = laws.whole_trees_rise tree.form tree.start (whole tree) are.whole

  -- what marks are to leave for a cut
  pub cut_of : (d : CutForm) (u : PlainTree) → length d.marks ≡ size (whole tree) → ReplacementsGoDown d.marks (whole tree)
      → left_at d.marks 0 (whole tree) ≡ Some u → IsTreeFor tree.form tree.start u →
      ((q : ℕ) (s : Sym) → slot_at tree.form tree.start q u ≡ Some s → slot_of tree d.positions q ≡ Some s) → d.kept ≡ leaves u → (cut_tree tree d ≡ u)
      × IsCutOf tree d
  cut_of d u len down root fits slots kept =
      let is : cut_tree tree d ≡ u = ap (λ (o : Option PlainTree). option_map_or (λ t. t) o (whole tree)) root in
      let own : left_at d.marks 0 (whole tree) ≡ Some (cut_tree tree d) = root ∙ ap Some (sym is) in (
        is,
        record {
          for_each = len;
          down = down;
          root = own;
          part = part_left d.marks 0 (whole tree) (cut_tree tree d) own;
          fits = subst (λ x. IsTreeFor tree.form tree.start x) (sym is) fits;
          slots = subst (λ x. (q : ℕ) (s : Sym) → slot_at tree.form tree.start q x ≡ Some s → slot_of tree d.positions q ≡ Some s) (sym is) slots;
          kept = kept ∙ ap leaves (sym is);
        },
      )

  module _ (c : CutForm) (of : IsCutOf tree c) where
    pub tree_rises : Rises 0 (size (whole tree)) (cut_tree tree c)
    tree_rises = left_rises c.marks 0 (size (whole tree)) (whole tree) whole_rises 0 (cut_tree tree c) of.root

    pub tree_numbers : NumbersRise (cut_tree tree c)
    tree_numbers = (laws.left_is_part (whole tree) (cut_tree tree c) of.part).numbers_rise whole_numbers

    -- a node that is left, in the parsed tree
    pub node_was : (q : ℕ) (u : PlainTree) → subtree q (cut_tree tree c) ≡ Some u →
        (left_at c.marks q (whole tree) ≡ Some u) × (mark_at c.marks q ≡ Kept) × (q < length c.marks) × ((x : PlainTree) × (subtree q (whole tree) ≡ Some x))
    node_was q u e =
        let own = own_left c.marks 0 (size (whole tree)) (whole tree) whole_rises 0 q (cut_tree tree c) u of.root e in
        let there = left_there c.marks q (whole tree) u own.0 in
        let within = found_within 0 (size (whole tree)) (whole tree) whole_rises q there.0 there.1 in
        (own.0, own.1, (let f = of.for_each in omega (arith, within, f)), there)

    pub node_span : (q : ℕ) (u : PlainTree) → subtree q (cut_tree tree c) ≡ Some u → (x : Node) × (slice_get tree.nodes q ≡ Some x)
        × AreLeavesInSpan x q (cut_tree tree c) u
    node_span q u e =
        let was = node_was q u e in
        let at = laws.subtrees_have_nodes tree are q was.3.0 was.3.1 in
        (at.0, at.1, laws.leaves_in_span tree are (cut_tree tree c) u q at.0 of.part e at.1)

    -- the slots of the nodes below a node that is left
    slot_below : (p : ℕ) (x : Sym) (v : PlainTree) → subtree p (cut_tree tree c) ≡ Some v → slot_at tree.form tree.start p (cut_tree tree c) ≡ Some x → (q : ℕ)
        → IsSome (subtree q v) → slot_at tree.form tree.start q (cut_tree tree c) ≡ slot_at tree.form x q v
    slot_below p x v sub slot q below =
        ap (λ (t : PlainTree). slot_at tree.form tree.start q t) (sym (with_itself 0 (size (whole tree)) (cut_tree tree c) tree_rises p v sub))
        ∙ (laws.other_nodes_stay tree.form tree.start x p (cut_tree tree c) v v of.fits.valid tree_numbers sub slot (laws.left_is_reflexive v)).slot_in q below

    edit_fits : (p : ℕ) (x : Sym) (v w : PlainTree) → subtree p (cut_tree tree c) ≡ Some v → slot_at tree.form tree.start p (cut_tree tree c) ≡ Some x
        → IsValid tree.form x w → IsRemainderOf v w →
        IsTreeFor tree.form tree.start (with_subtree p w (cut_tree tree c))
    edit_fits p x v w sub slot valid left = record {
      valid = laws.subtrees_fit tree.form tree.start x p (cut_tree tree c) v w of.fits.valid tree_numbers sub slot valid;
      rising =
          (laws.left_is_part (cut_tree tree c) (with_subtree p w (cut_tree tree c))
          (laws.subtrees_are_left (cut_tree tree c) p v w tree_numbers sub left)).leaves_rise of.fits.rising;
    }

    edit_slots : (d : CutForm) (p : ℕ) (x : Sym) (v w : PlainTree) → subtree p (cut_tree tree c) ≡ Some v
        → slot_at tree.form tree.start p (cut_tree tree c) ≡ Some x → IsRemainderOf v w →
        ((q : ℕ) (s : Sym) → IsSome (subtree q v) → slot_at tree.form x q w ≡ Some s → slot_of tree d.positions q ≡ Some s) →
        ((q : ℕ) (s : Sym) → subtree q v ≡ None → slot_at tree.form tree.start q (cut_tree tree c) ≡ Some s → slot_of tree d.positions q ≡ Some s) →
        (q : ℕ) (s : Sym) → slot_at tree.form tree.start q (with_subtree p w (cut_tree tree c)) ≡ Some s → slot_of tree d.positions q ≡ Some s
    edit_slots d p x v w sub slot left in_it out_of_it q s e =
        let stay = laws.other_nodes_stay tree.form tree.start x p (cut_tree tree c) v w of.fits.valid tree_numbers sub slot left in
        elim (cases_option (subtree q v)) [
          | inl some ↦ let below = some_is (subtree q v) some.0 some.1 in in_it q s below (sym (stay.slot_in q below) ∙ e)
          | inr none ↦ out_of_it q s none (sym (stay.slot_out q none) ∙ e)
        ]

    -- A child of a list or optional is deleted.
    module _ (d : CutForm) (p q r a : ℕ) (us : PlainTrees) (form : RuleForm) (y : Sym) (did : HasDeleted tree c d q)
        (sub : subtree p (cut_tree tree c) ≡ Some (PlainTree.node p r a us)) (has : Contains (roots us) q)
        (rule : slice_get tree.form.rules r ≡ Some form) (each : (children : ℕ) → slots_of_form form a children ≡ replicate children y)
        (edit : IsLocalDeletion tree.form (PlainTree.node p r a us) (PlainTree.node p r a (without q us))) where
      rising_children : RiseAll (p + 1) (size (whole tree)) us
      rising_children = (subtree_within 0 (size (whole tree)) (cut_tree tree c) tree_rises p (PlainTree.node p r a us) sub).1.1

      child_is : (x : PlainTree) × (subtree_among q us ≡ Some x) × (subtree q (cut_tree tree c) ≡ Some x)
      child_is =
          let found = child_found (p + 1) (size (whole tree)) us rising_children q has in
          let at = child_within (p + 1) (size (whole tree)) us rising_children q has in
          let below : subtree q (PlainTree.node p r a us) ≡ Some found.0 = subtree_below q p r a us (λ (e : p ≡ q). omega (arith, e, at)) ∙ found.1 in
          (found.0, found.1, deeper_found 0 (size (whole tree)) (cut_tree tree c) tree_rises p q (PlainTree.node p r a us) found.0 sub below)

      root_deleted : left_at d.marks 0 (whole tree) ≡ Some (with_subtree p (PlainTree.node p r a (without q us)) (cut_tree tree c))
      root_deleted =
          let was = node_was q child_is.0 child_is.2 in
          let marks : (n : ℕ) → mark_at d.marks n ≡ mark_at (slice_set c.marks q Deleted) n = λ n. ap (λ (ms : List Mark). mark_at ms n) did.marks in
          let deleted : mark_at d.marks q ≡ Deleted = marks q ∙ get_or-set_same c.marks q Deleted Kept was.2 in
          let there : (x : PlainTree) → subtree q (whole tree) ≡ Some x → left_at d.marks q x ≡ None =
          λ x e. none_there d.marks q x (subtree_within 0 (size (whole tree)) (whole tree) whole_rises q x e).0 deleted in
          left_edited c.marks d.marks q None (λ n other. marks n ∙ get_or-set_other c.marks q n Deleted Kept other) was.1 0 (size (whole tree))
          (whole tree) whole_rises there 0
          ∙ ap (option_and_then (edited q None)) of.root
          ∙ child_deleted p q r a us has 0 (size (whole tree)) (cut_tree tree c) tree_rises sub

      down_deleted : ReplacementsGoDown d.marks (whole tree)
      down_deleted n by x e m =
          let was = node_was q child_is.0 child_is.2 in
          let moved : mark_at (slice_set c.marks q Deleted) n ≡ Replaced by = ap (λ (ms : List Mark). mark_at ms n) (sym did.marks) ∙ m in
          elim (cases_eq n q) [
            | inl same ↦ absurd (not_replaced by (sym (get_or-set_same c.marks q Deleted Kept was.2) ∙ ap (mark_at (slice_set c.marks q Deleted)) (sym same)
                ∙ moved))
            | inr other ↦ of.down n by x e (sym (get_or-set_other c.marks q n Deleted Kept other) ∙ moved)
          ]

      kept_deleted : d.kept ≡ leaves (with_subtree p (PlainTree.node p r a (without q us)) (cut_tree tree c))
      kept_deleted =
          let all : List ℕ = leaves (cut_tree tree c) in
          let w : PlainTree = PlainTree.node p r a (without q us) in
          let change = laws.subtrees_change (cut_tree tree c) p (PlainTree.node p r a us) w tree_numbers sub in
          let outer = change.leaves_are in
          let inner = leaves_without (p + 1) (size (whole tree)) us rising_children q has child_is.0 child_is.1 in
          let span = node_span q child_is.0 child_is.2 in
          let x : Node = span.0 in
          let one : leaves (cut_tree tree c) ≡ (outer.0 ++ inner.0) ++ (leaves child_is.0 ++ (inner.1 ++ outer.1)) =
          outer.2 ∙ ap (λ (l : List ℕ). (outer.0 ++ l) ++ outer.1) inner.2 ∙ (simp append_assoc) in
          let two : leaves (cut_tree tree c) ≡ filter (λ i. nat_lt i x.first) all ++ (leaves child_is.0 ++ filter (λ i. nat_le x.end i) all) =
          span.2.all ∙ (simp append_assoc) in
          did.kept x span.1
          ∙ ap (λ (l : List ℕ). before x.first l ++ from_on x.end l) of.kept
          ∙ sym (apart_again (is_within x.first x.end) (outer.0 ++ inner.0) (leaves child_is.0) (inner.1 ++ outer.1) (before x.first all)
          (from_on x.end all) all span.2.inside one two)
          ∙ (simp append_assoc)
          ∙ ap (λ (l : List ℕ). outer.0 ++ l) (sym (append_assoc inner.0 inner.1 outer.1))
          ∙ ap (λ (l : List ℕ). outer.0 ++ (l ++ outer.1)) (sym inner.3)
          ∙ sym (append_assoc outer.0 (leaves w) outer.1)
          ∙ sym outer.3

      pub child_gone : (cut_tree tree d ≡ with_subtree p (PlainTree.node p r a (without q us)) (cut_tree tree c)) × IsCutOf tree d
      child_gone =
          let v : PlainTree = PlainTree.node p r a us in
          let w : PlainTree = PlainTree.node p r a (without q us) in
          let slot = laws.nodes_have_slots tree.form tree.start p (cut_tree tree c) v of.fits.valid tree_numbers sub in
          let after = laws.local_edits_are_valid tree.form slot.0 v w slot.2 (inl edit) in
          let keep : (n : ℕ) (s : Sym) → slot_at tree.form slot.0 n w ≡ Some s → slot_at tree.form slot.0 n v ≡ Some s =
          node_slots tree.form slot.0 y p r a us (without q us) (slots_are tree.form form y r a rule each us)
          (slots_are tree.form form y r a rule each (without q us))
          (λ n s. slots_without tree.form y (p + 1) (size (whole tree)) us rising_children q n s) in
          let same : (n : ℕ) (s : Sym) → slot_at tree.form tree.start n (cut_tree tree c) ≡ Some s → slot_of tree d.positions n ≡ Some s =
          λ n s e. ap (λ (ps : List ℕ). slot_of tree ps n) did.positions ∙ of.slots n s e in
          cut_of d (with_subtree p w (cut_tree tree c)) (ap length did.marks ∙ length-set c.marks q Deleted ∙ of.for_each) down_deleted root_deleted
          (edit_fits p slot.0 v w sub slot.1 after.0 after.1)
          (edit_slots d p slot.0 v w sub slot.1 after.1 (λ n s below e. same n s (slot_below p slot.0 v sub slot.1 n below ∙ keep n s e))
          (λ n s out e. same n s e))
          kept_deleted

    -- A regular node is replaced by one below it.
    module _ (d : CutForm) (q by r a : ℕ) (us : PlainTrees) (u : PlainTree) (x : Sym) (alts : List (List Sym)) (did : HasReplaced tree c d q by)
        (sub : subtree q (cut_tree tree c) ≡ Some (PlainTree.node q r a us))
        (slot : slot_at tree.form tree.start q (cut_tree tree c) ≡ Some x) (sub_by : subtree by (cut_tree tree c) ≡ Some u)
        (below : IsBelow u (PlainTree.node q r a us))
        (regular : slice_get tree.form.rules r ≡ Some (RuleForm.regular alts)) (fits : Fits tree.form (symbol_of u) x) where
      number_by : number_of u ≡ by
      number_by = (subtree_within 0 (size (whole tree)) (cut_tree tree c) tree_rises by u sub_by).0

      under : subtree_among by us ≡ Some u
      under =
          subst (λ n. subtree_among n us ≡ Some u) number_by
          (in_some_found (q + 1) (size (whole tree)) us
          (subtree_within 0 (size (whole tree)) (cut_tree tree c) tree_rises q (PlainTree.node q r a us) sub).1.1 u below)

      marks_are : (n : ℕ) → mark_at d.marks n ≡ mark_at (slice_set c.marks q (Replaced by)) n
      marks_are n = ap (λ (ms : List Mark). mark_at ms n) did.marks

      other_marks : (n : ℕ) → (n ≡ q → ⊥) → mark_at d.marks n ≡ mark_at c.marks n
      other_marks n other = marks_are n ∙ get_or-set_other c.marks q n (Replaced by) Kept other

      own_mark : mark_at d.marks q ≡ Replaced by
      own_mark = marks_are q ∙ get_or-set_same c.marks q (Replaced by) Kept (node_was q (PlainTree.node q r a us) sub).2

      replaced_at : (z : PlainTree) → subtree q (whole tree) ≡ Some z → (left_at d.marks q z ≡ Some u)
          × ((w : PlainTree) × (subtree_among by (children_of z) ≡ Some w))
      replaced_at z e =
          let was = node_was q (PlainTree.node q r a us) sub in
          let at = subtree_within 0 (size (whole tree)) (whole tree) whole_rises q z e in
          replaced_there c.marks d.marks q by other_marks was.1 own_mark q (size (whole tree)) z at.1 at.0 r a us u
          (sym (left_below c.marks 0 (size (whole tree)) (whole tree) whole_rises q q z z e (subtree_own q z at.0)) ∙ was.0) under

      root_replaced : left_at d.marks 0 (whole tree) ≡ Some (with_subtree q u (cut_tree tree c))
      root_replaced =
          left_edited c.marks d.marks q (Some u) other_marks (node_was q (PlainTree.node q r a us) sub).1 0 (size (whole tree)) (whole tree) whole_rises
          (λ z e. (replaced_at z e).0) 0
          ∙ ap (option_and_then (edited q (Some u))) of.root
          ∙ edited_with q u (cut_tree tree c)

      down_replaced : ReplacementsGoDown d.marks (whole tree)
      down_replaced n by' z e m =
          elim (cases_eq n q) [
            | inl same ↦
                let is : Replaced by ≡ Replaced by' = sym own_mark ∙ ap (mark_at d.marks) (sym same) ∙ m in
                subst (λ y. (w : PlainTree) × (subtree_among y (children_of z) ≡ Some w)) (same_by by by' is)
                (replaced_at z (ap (λ (y : ℕ). subtree y (whole tree)) (sym same) ∙ e)).1
            | inr other ↦ of.down n by' z e (sym (other_marks n other) ∙ m)
          ]

      kept_replaced : IsRemainderOf (PlainTree.node q r a us) u → d.kept ≡ leaves (with_subtree q u (cut_tree tree c))
      kept_replaced left =
          let span = node_span q (PlainTree.node q r a us) sub in
          let span_by = node_span by u sub_by in
          let all : List ℕ = leaves (cut_tree tree c) in
          let y : Node = span.0 in
          let z : Node = span_by.0 in
          did.kept y z span.1 span_by.1
          ∙ ap (λ (l : List ℕ). before y.first l ++ within z.first z.end l ++ from_on y.end l) of.kept
          ∙ ap (λ (l : List ℕ). before y.first all ++ l ++ from_on y.end all) (sym span_by.2.inside)
          ∙ sym (span.2.changed u left)

      slots_replaced : IsRemainderOf (PlainTree.node q r a us) u → (n : ℕ) (s : Sym)
          → slot_at tree.form tree.start n (with_subtree q u (cut_tree tree c)) ≡ Some s → slot_of tree d.positions n ≡ Some s
      slots_replaced left =
          let y = laws.nodes_have_slots tree.form tree.start by (cut_tree tree c) u of.fits.valid tree_numbers sub_by in
          let at = position_of q x (of.slots q x slot) in
          let at_by = position_of by y.0 (of.slots by y.0 y.1) in
          let positions : d.positions ≡ slice_set c.positions by at.0 = did.positions at.0 at.1 in
          let here : slot_of tree d.positions by ≡ Some x =
          ap (λ (ps : List ℕ). slot_of tree ps by) positions
          ∙ ap (slot_at_position tree) (get_set_same c.positions by at.0 (slice_get_within c.positions by at_by.0 at_by.1) ∙ sym at.1)
          ∙ of.slots q x slot in
          let others : (n : ℕ) (s : Sym) → (n ≡ by → ⊥) → slot_at tree.form tree.start n (cut_tree tree c) ≡ Some s → slot_of tree d.positions n ≡ Some s =
          λ n s other e.
          let at_n = position_of n s (of.slots n s e) in
          ap (λ (ps : List ℕ). slot_of tree ps n) positions
          ∙ ap (slot_at_position tree) (get_set_other c.positions by n at.0 at_n.0 other at_n.1 ∙ sym at_n.1)
          ∙ of.slots n s e in
          edit_slots d q x (PlainTree.node q r a us) u sub slot left
          (λ n s some e. slot_in_new n s x y.0 e here (others n s) y.1)
          (λ n s none e. others n s (λ (f : n ≡ by). none-some u (sym none ∙ ap (λ (m : ℕ). subtree m (PlainTree.node q r a us)) f ∙ by_in_node)) e)
        where
          position_of : (n : ℕ) (s : Sym) → slot_of tree c.positions n ≡ Some s → (p : ℕ) × (slice_get c.positions n ≡ Some p)
          position_of n s e =
              elim (cases_option (slice_get c.positions n)) [
                | inl some ↦ some
                | inr none ↦ absurd (none-some s (ap (slot_at_position tree) (sym none) ∙ e))
              ]

          by_in_node : subtree by (PlainTree.node q r a us) ≡ Some u
          by_in_node =
              let within =
              found_among_within (q + 1) (size (whole tree)) us
              (subtree_within 0 (size (whole tree)) (cut_tree tree c) tree_rises q (PlainTree.node q r a us) sub).1.1 by u under in
              subtree_below by q r a us (λ (e : q ≡ by). omega (arith, e, within)) ∙ under

          slot_in_new : (n : ℕ) (s x' y : Sym) → slot_at tree.form x' n u ≡ Some s → slot_of tree d.positions by ≡ Some x'
              → ((n ≡ by → ⊥) → slot_at tree.form tree.start n (cut_tree tree c) ≡ Some s → slot_of tree d.positions n ≡ Some s) →
              slot_at tree.form tree.start by (cut_tree tree c) ≡ Some y → slot_of tree d.positions n ≡ Some s
          slot_in_new n s x' y e here others slot_by =
              elim (cases_eq n by) [
                | inl same ↦
                    ap (λ (m : ℕ). slot_of tree d.positions m) same ∙ here ∙ sym (own_slot tree.form x' by u number_by)
                    ∙ ap (λ (m : ℕ). slot_at tree.form x' m u) (sym same) ∙ e
                | inr other ↦
                    let there = slot_there tree.form x' n u s e in
                    others other
                    (slot_below by y u sub_by slot_by n (some_is (subtree n u) there.0 there.1)
                    ∙ other_slot tree.form y x' n u (λ (f : number_of u ≡ n). other (sym f ∙ number_by)) ∙ e)
              ]

      pub replaced_cut : (cut_tree tree d ≡ with_subtree q u (cut_tree tree c)) × IsCutOf tree d
      replaced_cut =
          let v : PlainTree = PlainTree.node q r a us in
          let own = laws.nodes_have_slots tree.form tree.start q (cut_tree tree c) v of.fits.valid tree_numbers sub in
          let valid : IsValid tree.form x v = subst (λ (y : Sym). IsValid tree.form y v) (same_Some own.0 x (sym own.1 ∙ slot)) own.2 in
          let after = laws.local_edits_are_valid tree.form x v u valid (inr (by_descendant x q r a us alts u regular below fits)) in
          cut_of d (with_subtree q u (cut_tree tree c)) (ap length did.marks ∙ length-set c.marks q (Replaced by) ∙ of.for_each) down_replaced root_replaced
          (edit_fits q x v u sub slot after.0 after.1) (slots_replaced after.1) (kept_replaced after.1)
