-- What is asked of nodes before edits.
use Rattle.std.proofs.Common.{◌≡◌, ◌⊎◌, inl, inr, ℕ, ◌+◌, ◌-◌, ◌<◌, ◌≤◌, leb, ltb, List, [], ◌++◌, Option, Some}
use Rattle.std.proofs.Common.{None, length, slice_get, refl, sym, ap, ◌∙◌, subst, arith}
use Rattle.std.specs.Prelude.{◌↔◌, Bool, true, false, option_to_list, IsSome, IsTrue}
use Rattle.std.specs.List.{Contains}
use Rattle.std.specs.Option.{option_and_then, option_map}
use Rattle.std.proofs.lemmas.Bool.{cases_eq, false≢true, le-leb, leb-true, lt-ltb, ltb-true}
use Rattle.std.proofs.lemmas.Option.{none-some, same_Some}
use Rattle.normal_form.specs.declared.normal.Sym.{Sym}
use Rattle.normal_form.specs.Form.{RuleForm, NormalForm}
use Rattle.compat_table.specs.Fits.{Fits}
use Rattle.syntax_tree.specs.declared.node.Node.{Node}
use Rattle.syntax_tree.specs.Trees as trees
use Rattle.syntax_tree.specs.Trees.{IsBelow, IsIn, IsInSome, PlainTree, PlainTrees, children_of, count, leaves, size, symbol_of, weight}
use Rattle.syntax_tree.specs.Numbered.{number_of, roots, subtree, subtree_among}
use Rattle.syntax_tree.specs.Valid.{IsValid, of_absent, of_leaf, of_plus, of_present, of_regular, of_star, slot_at}
use Rattle.syntax_tree.specs.Nodes.{AreNodesOf, SyntaxTree, whole}
use Rattle.syntax_tree_cut.specs.declared.mark.Mark.{Mark}
use Rattle.syntax_tree_cut.specs.declared.mark.Mark.TheVariants.{Kept}
use Rattle.syntax_tree_cut.specs.declared.shape.Shape.{Shape}
use Rattle.syntax_tree_cut.specs.declared.shape.Shape.TheVariants.{Leaf, Optional, Regular}
use Rattle.syntax_tree_cut.specs.declared.children.Seen.{Seen}
use Rattle.syntax_tree_cut.specs.inner.Children.{HasSeen}
use Rattle.syntax_tree_cut.specs.Cuts.{CanDelete, CanEmpty, CanReplace, CutForm, IsCutOf, IsOccupant, by_mark}
use Rattle.syntax_tree_cut.specs.Cuts.{cut_tree, left_among, left_at, left_of_each, mark_at}
use Rattle.syntax_tree_cut.specs.inner.Cuts.{HasBelow, HasFitting}
use Rattle.syntax_tree_cut.specs.Shapes.{shape_of, shape_of_form}
use Rattle.syntax_tree_cut.specs.inner.Shapes.{fewest_of}
use Rattle.syntax_tree_cut.specs.inner.Tokens.{within}
use Rattle.syntax_tree_cut.specs.inner.TreeLaws.{TreeLaws}
use Rattle.syntax_tree_cut.proofs.Rising.{Rises, cases_or, found_among_within, found_within, subtree_below, subtree_own, subtree_within, when_not}
use Rattle.syntax_tree_cut.proofs.Deletions.{leaves_count}
use Rattle.syntax_tree_cut.proofs.LeftTrees.{leaf_own, left_below, node_own}
use Rattle.syntax_tree_cut.proofs.CutEdits.{deeper_found, in_some_found, node_was, some_is, tree_numbers, tree_rises, whole_rises}
use Rattle.syntax_tree_cut.proofs.CutFacts.{nodes_count, some_of, some_size}
use Rattle.syntax_tree_cut.proofs.Positions.{IsWalk, optional_children, walk_end, walk_next}

-- what is left of a node has its symbol
left_symbol : (marks : List Mark) (q : ℕ) (x u : PlainTree) → number_of x ≡ q → mark_at marks q ≡ Kept → left_at marks q x ≡ Some u → symbol_of x ≡ symbol_of u
left_symbol marks q (PlainTree.leaf n k i) u e m f =
    ap symbol_of (same_Some (PlainTree.leaf n k i) u
    (ap (λ (y : Mark). by_mark y (PlainTree.leaf n k i) (λ by. None)) (sym m ∙ ap (mark_at marks) (sym e)) ∙ sym (leaf_own marks q n k i e) ∙ f))
left_symbol marks q (PlainTree.node n r a ts) u e m f =
    ap symbol_of (same_Some (PlainTree.node n r a (left_of_each marks ts)) u
    (ap (λ (y : Mark). by_mark y (PlainTree.node n r a (left_of_each marks ts)) (λ by. left_among marks by ts)) (sym m ∙ ap (mark_at marks) (sym e))
    ∙ sym (node_own marks q n r a ts e) ∙ f))

-- what is found in a tree is in it
mutual
  found_in : (q : ℕ) (t u : PlainTree) → subtree q t ≡ Some u → IsIn u t
  found_in q (PlainTree.leaf n k i) u e =
      elim (cases_eq n q) [
        | inl same ↦ subst (λ (x : PlainTree). IsIn x (PlainTree.leaf n k i))
            (same_Some (PlainTree.leaf n k i) u (sym (subtree_own q (PlainTree.leaf n k i) same) ∙ e)) (trees.itself (PlainTree.leaf n k i))
        | inr other ↦ absurd (none-some u (sym (when_not n q (Some (PlainTree.leaf n k i)) None other) ∙ e))
      ]
  found_in q (PlainTree.node n r a ts) u e =
      elim (cases_eq n q) [
        | inl same ↦ subst (λ (x : PlainTree). IsIn x (PlainTree.node n r a ts))
            (same_Some (PlainTree.node n r a ts) u (sym (subtree_own q (PlainTree.node n r a ts) same) ∙ e)) (trees.itself (PlainTree.node n r a ts))
        | inr other ↦ trees.below u n r a ts (found_in_some q ts u (sym (subtree_below q n r a ts other) ∙ e))
      ]

  found_in_some : (q : ℕ) (ts : PlainTrees) (u : PlainTree) → subtree_among q ts ≡ Some u → IsInSome u ts
  found_in_some q PlainTrees.none u e = absurd (none-some u e)
  found_in_some q (PlainTrees.next t ts) u e =
      elim (cases_or (subtree q t) (subtree_among q ts) u e) [
        | inl first ↦ trees.in_first u t ts (found_in q t u first)
        | inr both ↦ trees.in_later u t ts (found_in_some q ts u both.1)
      ]

below_found : (q by : ℕ) (t u : PlainTree) → number_of t ≡ q → (by ≡ q → ⊥) → subtree by t ≡ Some u → IsBelow u t
below_found q by (PlainTree.leaf n k i) u e other f =
    absurd (none-some u (sym (when_not n by (Some (PlainTree.leaf n k i)) None (λ (g : n ≡ by). other (sym g ∙ e))) ∙ f))
below_found q by (PlainTree.node n r a ts) u e other f = found_in_some by ts u (sym (subtree_below by n r a ts (λ (g : n ≡ by). other (sym g ∙ e))) ∙ f)

-- what is below a tree has a greater number, by which it is found
found_below : (q high : ℕ) (t u : PlainTree) → Rises q high t → number_of t ≡ q → IsBelow u t → (q < number_of u) × (subtree (number_of u) t ≡ Some u)
found_below q high (PlainTree.leaf n k i) u h e below = elim below [ ]
found_below q high (PlainTree.node n r a ts) u h e below =
    let found = in_some_found (n + 1) high ts h.1 u below in
    let within = found_among_within (n + 1) high ts h.1 (number_of u) u found in
    (omega (arith, within, e), subtree_below (number_of u) n r a ts (λ (g : n ≡ number_of u). omega (arith, g, within)) ∙ found)

-- a valid tree has a shape
pub valid_shape : (N : NormalForm) (s : Sym) (t : PlainTree) → IsValid N s t → IsSome (shape_of N t)
valid_shape N s t (of_leaf s' n k i fits) = refl
valid_shape N s t (of_regular s' n r a ts alts alt fits rule at valid) = subst (λ (o : Option RuleForm). IsSome (option_map shape_of_form o)) (sym rule) refl
valid_shape N s t (of_absent s' n r x fits rule) = subst (λ (o : Option RuleForm). IsSome (option_map shape_of_form o)) (sym rule) refl
valid_shape N s t (of_present s' n r u x fits rule valid) = subst (λ (o : Option RuleForm). IsSome (option_map shape_of_form o)) (sym rule) refl
valid_shape N s t (of_star s' n r ts x fits rule each) = subst (λ (o : Option RuleForm). IsSome (option_map shape_of_form o)) (sym rule) refl
valid_shape N s t (of_plus s' n r u ts x fits rule each) = subst (λ (o : Option RuleForm). IsSome (option_map shape_of_form o)) (sym rule) refl

-- a tree with a shape, and the form of its rule
pub shape_there : (N : NormalForm) (o : Option PlainTree) (s : Shape) → option_and_then (shape_of N) o ≡ Some s → (u : PlainTree) × (o ≡ Some u)
    × (shape_of N u ≡ Some s)
shape_there N None s e = absurd (none-some s e)
shape_there N (Some u) s e = (u, refl, e)

-- A form is of this shape.
abbrev pub HasShape : RuleForm → Shape → Type 0
HasShape form s = shape_of_form form ≡ s

some_form : (o : Option RuleForm) (s : Shape) → option_map shape_of_form o ≡ Some s → (form : RuleForm) × (o ≡ Some form) × HasShape form s
some_form None s e = absurd (none-some s e)
some_form (Some form) s e = (form, refl, same_Some (shape_of_form form) s e)

-- what isn't a leaf is a node, and has a rule
pub node_of_shape : (N : NormalForm) (u : PlainTree) (s : Shape) → (Leaf ≡ s → ⊥) → shape_of N u ≡ Some s →
    (n : ℕ) × (r : ℕ) × (a : ℕ) × (ts : PlainTrees) × (form : RuleForm) × (u ≡ PlainTree.node n r a ts) × (slice_get N.rules r ≡ Some form) × HasShape form s
node_of_shape N (PlainTree.leaf n k i) s other e = absurd (other (same_Some Leaf s e))
node_of_shape N (PlainTree.node n r a ts) s other e = let form = some_form (slice_get N.rules r) s e in (n, r, a, ts, form.0, refl, form.1, form.2)

opt_form : (form : RuleForm) → HasShape form Optional → (x : Sym) × (form ≡ RuleForm.opt x)
opt_form (RuleForm.regular alts) e = absurd (cc)
opt_form (RuleForm.star x) e = absurd (cc)
opt_form (RuleForm.plus x) e = absurd (cc)
opt_form (RuleForm.opt x) e = (x, refl)

regular_form : (form : RuleForm) → HasShape form Regular → (alts : List (List Sym)) × (form ≡ RuleForm.regular alts)
regular_form (RuleForm.regular alts) e = (alts, refl)
regular_form (RuleForm.star x) e = absurd (cc)
regular_form (RuleForm.plus x) e = absurd (cc)
regular_form (RuleForm.opt x) e = absurd (cc)

-- how many elements a list with one that can be deleted has at least
fewest_form : (form : RuleForm) (n : ℕ) → fewest_of (Some (shape_of_form form)) ≡ Some n → ((x : Sym) × (form ≡ RuleForm.star x) × (n ≡ 1))
    ⊎ ((x : Sym) × (form ≡ RuleForm.plus x) × (n ≡ 2))
fewest_form (RuleForm.regular alts) n e = absurd (none-some n e)
fewest_form (RuleForm.star x) n e = inl (x, refl, sym (same_Some 1 n e))
fewest_form (RuleForm.plus x) n e = inr (x, refl, sym (same_Some 2 n e))
fewest_form (RuleForm.opt x) n e = absurd (none-some n e)

fewest_node : (N : NormalForm) (u : PlainTree) (n : ℕ) → fewest_of (shape_of N u) ≡ Some n → (m : ℕ) × (r : ℕ) × (a : ℕ) × (ts : PlainTrees) × (form : RuleForm)
    × (u ≡ PlainTree.node m r a ts) × (slice_get N.rules r ≡ Some form) × (fewest_of (Some (shape_of_form form)) ≡ Some n)
fewest_node N (PlainTree.leaf m k i) n e = absurd (none-some n e)
fewest_node N (PlainTree.node m r a ts) n e = by_form (slice_get N.rules r) refl
  where
    by_form : (o : Option RuleForm) → slice_get N.rules r ≡ o → (m' : ℕ) × (r' : ℕ) × (a' : ℕ) × (ts' : PlainTrees) × (form : RuleForm)
        × (PlainTree.node m r a ts ≡ PlainTree.node m' r' a' ts') × (slice_get N.rules r' ≡ Some form) × (fewest_of (Some (shape_of_form form)) ≡ Some n)
    by_form None f = absurd (none-some n (ap (λ (o : Option RuleForm). fewest_of (option_map shape_of_form o)) (sym f) ∙ e))
    by_form (Some form) f = (m, r, a, ts, form, refl, f, ap (λ (o : Option RuleForm). fewest_of (option_map shape_of_form o)) (sym f) ∙ e)

-- what has such a number is there
pub fewest_found : (N : NormalForm) (o : Option PlainTree) (n : ℕ) → fewest_of (option_and_then (shape_of N) o) ≡ Some n → (u : PlainTree) × (o ≡ Some u)
    × (fewest_of (shape_of N u) ≡ Some n)
fewest_found N None n e = absurd (none-some n e)
fewest_found N (Some u) n e = (u, refl, e)

pub through : {A B C : Type 0} → A ↔ B → B ↔ C → A ↔ C
through f g = (λ a. g.0 (f.0 a), λ c. f.1 (g.1 c))

-- whether a node that is below another one fits its slot
pub fitting_is : (N : NormalForm) (start : Sym) (t : PlainTree) (q by : ℕ) (answer : Bool) (M : NormalForm) (symbol slot : Sym) → M ≡ N → HasBelow t q
    by → option_map symbol_of (subtree by t) ≡ Some symbol → slot_at N start q t ≡ Some slot →
    IsTrue answer ↔ Fits M symbol slot → IsTrue answer ↔ HasFitting N start t q by
fitting_is N start t q by answer M symbol slot same has symbol_is slot_is fits =
    let other : symbol_of has.other ≡ symbol = same_Some (symbol_of has.other) symbol (sym (ap (option_map symbol_of) has.other_is) ∙ symbol_is) in (
      λ t. record {
        below = has;
        slot = slot;
        slot_is = slot_is;
        fits = subst (λ (s : Sym). Fits N s slot) (sym other) (subst (λ (L : NormalForm). Fits L symbol slot) same (fits.0 t));
      },
      λ fitting.
          let symbols : symbol_of fitting.below.other ≡ symbol =
          same_Some (symbol_of fitting.below.other) symbol (sym (ap (option_map symbol_of) fitting.below.other_is) ∙ symbol_is) in
          let slots : fitting.slot ≡ slot = same_Some fitting.slot slot (sym fitting.slot_is ∙ slot_is) in
          fits.1 (subst (λ (L : NormalForm). Fits L symbol slot) (sym same)
          (subst (λ (s : Sym). Fits N s slot) symbols (subst (λ (s : Sym). Fits N (symbol_of fitting.below.other) s) slots fitting.fits))),
    )

some_child : (ts : PlainTrees) (q : ℕ) → Contains (roots ts) q → 1 ≤ count ts
some_child PlainTrees.none q has = absurd (omega (arith, has.1))
some_child (PlainTrees.next t ts) q has = omega arith

roots_count : (ts : PlainTrees) → length (roots ts) ≡ count ts
roots_count PlainTrees.none = refl
roots_count (PlainTrees.next t ts) = let rest = roots_count ts in omega (arith, rest)

pub nothing_seen : (child : ℕ) → HasSeen [] child (record { count = 0; found = false })
nothing_seen child = record { count = refl; found = (λ t. absurd (false≢true t), λ has. absurd (let lt = has.1 in omega (arith, lt))) }

-- the answer from what was seen
pub element_seen : (child fewest : ℕ) (seen : Seen) (u : PlainTree) → HasSeen (roots (children_of u)) child seen → seen.found ≡ true
    → IsTrue (leb fewest seen.count) ↔ (Contains (roots (children_of u)) child × (fewest ≤ count (children_of u)))
element_seen child fewest seen u is found =
    let counted = is.count in
    let long = roots_count (children_of u) in (
      λ le. (is.found.0 found, (let less = leb-true fewest seen.count le in omega (arith, less, counted, long))),
      λ both. le-leb fewest seen.count (let less = both.1 in omega (arith, less, counted, long)),
    )

-- So far these children were seen.
pub record IsSeenSoFar (tree : SyntaxTree) (c : CutForm) (q position remaining child : ℕ) (seen : Seen) : Type 0 where
  pub done : List ℕ
  pub walk : IsWalk tree c q position remaining done
  pub seen_so_far : HasSeen done child seen
  pub few : seen.count < position

module _ (tree : SyntaxTree) (laws : TreeLaws) (are : AreNodesOf tree.form tree.start tree.nodes (whole tree)) (c : CutForm) (of : IsCutOf tree c) where
  pub found_numbers : (q : ℕ) (u : PlainTree) → subtree q (cut_tree tree c) ≡ Some u → (number_of u ≡ q) × Rises q (size (whole tree)) u × (0 ≤ q)
  found_numbers q u e = subtree_within 0 (size (whole tree)) (cut_tree tree c) (tree_rises tree laws are c of) q u e

  pub left_number : (q : ℕ) → IsSome (subtree q (cut_tree tree c)) → q < length tree.nodes
  left_number q is =
      let it = some_of (subtree q (cut_tree tree c)) is in
      let within = found_within 0 (size (whole tree)) (cut_tree tree c) (tree_rises tree laws are c of) q it.0 it.1 in
      let count = nodes_count tree laws are in
      omega (arith, within, count)

  -- the entry of a node that is left has its symbol
  pub node_symbol : (q : ℕ) (u : PlainTree) → subtree q (cut_tree tree c) ≡ Some u → (x : Node) → slice_get tree.nodes q ≡ Some x → x.sym ≡ symbol_of u
  node_symbol q u e x at =
      let node = laws.nodes_are_subtrees tree are q x at in
      let was = node_was tree laws are c of q u e in
      let number = (subtree_within 0 (size (whole tree)) (whole tree) (whole_rises tree laws are) q node.0 node.1.subtree_is).0 in
      let own =
      left_below c.marks 0 (size (whole tree)) (whole tree) (whole_rises tree laws are) q q node.0 node.0 node.1.subtree_is (subtree_own q node.0 number) in
      node.1.sym ∙ left_symbol c.marks q node.0 u number was.1 (sym own ∙ was.0)

  pub left_shape : (q : ℕ) (u : PlainTree) → subtree q (cut_tree tree c) ≡ Some u → IsSome (shape_of tree.form u)
  left_shape q u e =
      let slot = laws.nodes_have_slots tree.form tree.start q (cut_tree tree c) u of.fits.valid (tree_numbers tree laws are c of) e in
      valid_shape tree.form slot.0 u slot.2

  -- which nodes are below a node that is left
  pub below_is : (q by : ℕ) (u : PlainTree) → subtree q (cut_tree tree c) ≡ Some u → (by ≡ q → ⊥)
      → IsSome (option_and_then (subtree by) (left_at c.marks q (whole tree))) ↔ HasBelow (cut_tree tree c) q by
  below_is q by u e other =
      let was = node_was tree laws are c of q u e in
      let own : option_and_then (subtree by) (left_at c.marks q (whole tree)) ≡ subtree by u = ap (option_and_then (subtree by)) was.0 in
      let at = found_numbers q u e in (
        λ is.
            let it = some_of (subtree by u) (subst (λ (o : Option PlainTree). IsSome o) own is) in
            record {
              node = u;
              other = it.0;
              node_is = e;
              other_is = deeper_found 0 (size (whole tree)) (cut_tree tree c) (tree_rises tree laws are c of) q by u it.0 e it.1;
              below = below_found q by u it.0 at.0 other it.1;
            },
        λ has. subst (λ (o : Option PlainTree). IsSome o) (sym own)
            (some_is (subtree by u) has.other (found_by u has (same_Some has.node u (sym has.node_is ∙ e)))),
      )
    where
      found_by : (u : PlainTree) (has : HasBelow (cut_tree tree c) q by) → has.node ≡ u → subtree by u ≡ Some has.other
      found_by u has same =
          let at = found_numbers q has.node has.node_is in
          let below = found_below q (size (whole tree)) has.node has.other at.1 at.0 has.below in
          subst (λ (x : PlainTree). subtree by x ≡ Some has.other) same
          (subst (λ (p : ℕ). subtree p has.node ≡ Some has.other) (found_numbers by has.other has.other_is).0 below.1)

  pub not_below_itself : (q by : ℕ) → by ≡ q → HasBelow (cut_tree tree c) q by → ⊥
  not_below_itself q by same has =
      let at = found_numbers q has.node has.node_is in
      let below = found_below q (size (whole tree)) has.node has.other at.1 at.0 has.below in
      let number = (found_numbers by has.other has.other_is).0 in
      omega (arith, same, below, number)

  -- the same node, named by its number
  named : (q n r a : ℕ) (ts : PlainTrees) (u : PlainTree) → subtree q (cut_tree tree c) ≡ Some u → u ≡ PlainTree.node n r a ts
      → subtree q (cut_tree tree c) ≡ Some (PlainTree.node q r a ts)
  named q n r a ts u e is =
      let number = (found_numbers q u e).0 in
      let same : n ≡ q = sym (ap number_of is) ∙ number in
      e ∙ ap Some (is ∙ ap (λ (m : ℕ). PlainTree.node m r a ts) same)

  pub seen_next : (q position remaining child : ℕ) (seen seen' : Seen) → (so_far : IsSeenSoFar tree c q position remaining child seen) → 0 < remaining
      → (o : Option ℕ) → IsOccupant c.marks position o → (x : PlainTree) → subtree position (whole tree) ≡ Some x →
      HasSeen (so_far.done ++ option_to_list o) child seen' → seen'.count ≤ seen.count + 1
      → IsSeenSoFar tree c q (position + size x) (remaining - 1) child seen'
  seen_next q position remaining child seen seen' so_far some o at x e more few =
      let before = so_far.few in
      let long = some_size x in
      record {
        done = so_far.done ++ option_to_list o;
        walk = walk_next tree laws are c of q position remaining so_far.done so_far.walk some o at x e;
        seen_so_far = more;
        few = omega (arith, before, few, long);
      }

  pub seen_all : (q position remaining child : ℕ) (seen : Seen) (u : PlainTree) → (so_far : IsSeenSoFar tree c q position remaining child seen) → remaining ≡ 0
      → subtree q (cut_tree tree c) ≡ Some u → HasSeen (roots (children_of u)) child seen
  seen_all q position remaining child seen u so_far end e =
      subst (λ (l : List ℕ). HasSeen l child seen) (walk_end tree laws are c of q position remaining so_far.done u so_far.walk end e) so_far.seen_so_far

  pub delete_from : (list element fewest : ℕ) (u : PlainTree) → subtree list (cut_tree tree c) ≡ Some u → fewest_of (shape_of tree.form u) ≡ Some fewest
      → Contains (roots (children_of u)) element → fewest ≤ count (children_of u) → CanDelete tree.form (cut_tree tree c) list element
  delete_from list element fewest u e shape has many =
      let node = fewest_node tree.form u fewest shape in
      let children : children_of u ≡ node.3 = ap children_of node.5 in
      let has' = subst (λ (ts : PlainTrees). Contains (roots ts) element) children has in
      let many' = subst (λ (ts : PlainTrees). fewest ≤ count ts) children many in
      let at = named list node.0 node.1 node.2 node.3 u e node.5 in
      elim (fewest_form node.4 fewest node.7) [
        | inl star ↦ record {
          rule = node.1;
          alt = node.2;
          elements = node.3;
          symbol = star.0;
          node = at;
          is_list = inl (node.6 ∙ ap Some star.1);
          is_element = has';
        }
        | inr plus ↦ record {
          rule = node.1;
          alt = node.2;
          elements = node.3;
          symbol = plus.0;
          node = at;
          is_list = inr (node.6 ∙ ap Some plus.1, subst (λ (n : ℕ). n ≤ count node.3) plus.2 many');
          is_element = has';
        }
      ]

  -- of a list that an element can be deleted of: how many elements it has at least
  pub fewest_there : (list element : ℕ) (can : CanDelete tree.form (cut_tree tree c) list element) → (fewest : ℕ)
      × (fewest_of (option_and_then (shape_of tree.form) (subtree list (cut_tree tree c))) ≡ Some fewest) × (fewest ≤ count can.elements)
  fewest_there list element can =
      let shape : (form : RuleForm) → slice_get tree.form.rules can.rule ≡ Some form
      → option_and_then (shape_of tree.form) (subtree list (cut_tree tree c)) ≡ Some (shape_of_form form) =
      λ form e. ap (option_and_then (shape_of tree.form)) can.node ∙ ap (option_map shape_of_form) e in
      elim can.is_list [
        | inl star ↦ (1, ap fewest_of (shape (RuleForm.star can.symbol) star), some_child can.elements element can.is_element)
        | inr plus ↦ (2, ap fewest_of (shape (RuleForm.plus can.symbol) plus.0), plus.1)
      ]

  pub delete_children : (list element : ℕ) (u : PlainTree) (can : CanDelete tree.form (cut_tree tree c) list element) → subtree list (cut_tree tree c) ≡ Some u
      → can.elements ≡ children_of u
  delete_children list element u can e = ap children_of (same_Some (PlainTree.node list can.rule can.alt can.elements) u (sym can.node ∙ e))

  pub empty_from : (q : ℕ) (u : PlainTree) → subtree q (cut_tree tree c) ≡ Some u → shape_of tree.form u ≡ Some Optional → 0 < count (children_of u)
      → CanEmpty tree.form (cut_tree tree c) q
  empty_from q u e shape many =
      let node = node_of_shape tree.form u Optional (λ (f : Leaf ≡ Optional). cc) shape in
      let form = opt_form node.4 node.7 in
      let rule : slice_get tree.form.rules node.1 ≡ Some (RuleForm.opt form.0) = node.6 ∙ ap Some form.1 in
      let slot = laws.nodes_have_slots tree.form tree.start q (cut_tree tree c) u of.fits.valid (tree_numbers tree laws are c of) e in
      let valid = subst (λ (x : PlainTree). IsValid tree.form slot.0 x) node.5 slot.2 in
      let some : 0 < count node.3 = subst (λ (x : PlainTree). 0 < count (children_of x)) node.5 many in
      elim (optional_children tree.form slot.0 node.0 node.1 node.2 node.3 form.0 valid rule) [
        | inl none ↦ absurd (let empty : count node.3 ≡ 0 = ap count none in omega (arith, some, empty))
        | inr one ↦ record {
          rule = node.1;
          alt = node.2;
          content = one.0;
          symbol = form.0;
          node =
              named q node.0 node.1 node.2 (PlainTrees.next one.0 PlainTrees.none) u e
              (node.5 ∙ ap (λ (ts : PlainTrees). PlainTree.node node.0 node.1 node.2 ts) one.1);
          is_optional = rule;
        }
      ]

  pub empty_some : (q : ℕ) (u : PlainTree) → CanEmpty tree.form (cut_tree tree c) q → subtree q (cut_tree tree c) ≡ Some u → 0 < count (children_of u)
  empty_some q u can e =
      subst (λ (x : PlainTree). 0 < count (children_of x))
      (same_Some (PlainTree.node q can.rule can.alt (PlainTrees.next can.content PlainTrees.none)) u (sym can.node ∙ e)) (omega arith)

  pub replace_from : (q by : ℕ) (u : PlainTree) → subtree q (cut_tree tree c) ≡ Some u → shape_of tree.form u ≡ Some Regular
      → HasFitting tree.form tree.start (cut_tree tree c) q by → CanReplace tree.form tree.start (cut_tree tree c) q by
  replace_from q by u e shape fitting =
      let node = node_of_shape tree.form u Regular (λ (f : Leaf ≡ Regular). cc) shape in
      let form = regular_form node.4 node.7 in
      let at = named q node.0 node.1 node.2 node.3 u e node.5 in
      record {
        rule = node.1;
        alt = node.2;
        children = node.3;
        alternatives = form.0;
        slot = fitting.slot;
        other = fitting.below.other;
        node = at;
        is_regular = node.6 ∙ ap Some form.1;
        slot_is = fitting.slot_is;
        other_is = fitting.below.other_is;
        below =
            subst (λ (x : PlainTree). IsBelow fitting.below.other x)
            (same_Some fitting.below.node (PlainTree.node q node.1 node.2 node.3) (sym fitting.below.node_is ∙ at)) fitting.below.below;
        fits = fitting.fits;
      }

  pub replace_fitting : (q by : ℕ) (can : CanReplace tree.form tree.start (cut_tree tree c) q by) → HasFitting tree.form tree.start (cut_tree tree c) q by
  replace_fitting q by can = record {
    below = record { node = PlainTree.node q can.rule can.alt can.children; other = can.other; node_is = can.node; other_is = can.other_is; below = can.below };
    slot = can.slot;
    slot_is = can.slot_is;
    fits = can.fits;
  }

  -- the tokens that are left below a node that is left
  pub left_leaves : (q : ℕ) (u : PlainTree) → subtree q (cut_tree tree c) ≡ Some u → (x : Node) → slice_get tree.nodes q ≡ Some x
      → leaves u ≡ within x.first x.end c.kept
  left_leaves q u e x at = (laws.leaves_in_span tree are (cut_tree tree c) u q x of.part e at).inside ∙ ap (within x.first x.end) (sym of.kept)

  -- whether the calls for edits can be made
  pub delete_is : (list element fewest : ℕ) (answer : Bool) → fewest_of (option_and_then (shape_of tree.form) (subtree list (cut_tree tree c))) ≡ Some fewest →
      ((u : PlainTree) → subtree list (cut_tree tree c) ≡ Some u → IsTrue answer
      ↔ (Contains (roots (children_of u)) element × (fewest ≤ count (children_of u)))) → IsTrue answer ↔ CanDelete tree.form (cut_tree tree c) list element
  delete_is list element fewest answer shape has =
      let it = fewest_found tree.form (subtree list (cut_tree tree c)) fewest shape in (
        λ t. let both = (has it.0 it.1).0 t in delete_from list element fewest it.0 it.1 it.2 both.0 both.1,
        λ can.
            let there = fewest_there list element can in
            let same : there.0 ≡ fewest = same_Some there.0 fewest (sym there.1 ∙ shape) in
            let children = delete_children list element it.0 can it.1 in
            (has it.0 it.1).1 (
              subst (λ (ts : PlainTrees). Contains (roots ts) element) children can.is_element,
              subst (λ (ts : PlainTrees). fewest ≤ count ts) children (subst (λ (n : ℕ). n ≤ count can.elements) same there.2),
            ),
      )

  pub empty_is : (q : ℕ) (seen : Seen) → option_and_then (shape_of tree.form) (subtree q (cut_tree tree c)) ≡ Some Optional
      → ((u : PlainTree) → subtree q (cut_tree tree c) ≡ Some u → HasSeen (roots (children_of u)) q seen) →
      IsTrue (ltb 0 seen.count) ↔ CanEmpty tree.form (cut_tree tree c) q
  empty_is q seen shape is =
      let it = shape_there tree.form (subtree q (cut_tree tree c)) Optional shape in
      let counted = (is it.0 it.1).count in
      let long = roots_count (children_of it.0) in (
        λ t. let some = ltb-true 0 seen.count t in empty_from q it.0 it.1 it.2 (omega (arith, some, counted, long)),
        λ can. let some = empty_some q it.0 can it.1 in lt-ltb 0 seen.count (omega (arith, some, counted, long)),
      )

  pub replace_is : (q by : ℕ) → option_and_then (shape_of tree.form) (subtree q (cut_tree tree c)) ≡ Some Regular
      → HasFitting tree.form tree.start (cut_tree tree c) q by ↔ CanReplace tree.form tree.start (cut_tree tree c) q by
  replace_is q by shape =
      let it = shape_there tree.form (subtree q (cut_tree tree c)) Regular shape in
      (λ fitting. replace_from q by it.0 it.1 it.2 fitting, λ can. replace_fitting q by can)

  -- the first of these tokens
  pub some_within : (q : ℕ) (u : PlainTree) → subtree q (cut_tree tree c) ≡ Some u → (tokens : List ℕ) → tokens ≡ c.kept → 0 < weight u → (x : Node)
      → slice_get tree.nodes q ≡ Some x → 0 < length (within x.first x.end tokens)
  some_within q u e tokens same some x at =
      let all = ap length (left_leaves q u e x at) in
      let long = leaves_count u in
      let kept = ap (λ (l : List ℕ). length (within x.first x.end l)) same in
      omega (arith, all, long, kept, some)

  pub first_left : (q : ℕ) (u : PlainTree) → subtree q (cut_tree tree c) ≡ Some u → (tokens : List ℕ) → tokens ≡ c.kept → (x : Node) (first : ℕ)
      → slice_get (within x.first x.end tokens) 0 ≡ Some first → slice_get tree.nodes q ≡ Some x →
      option_and_then (λ (t : PlainTree). slice_get (leaves t) 0) (subtree q (cut_tree tree c)) ≡ Some first
  first_left q u e tokens same x first is at =
      ap (option_and_then (λ (t : PlainTree). slice_get (leaves t) 0)) e
      ∙ ap (λ (l : List ℕ). slice_get l 0) (left_leaves q u e x at ∙ ap (within x.first x.end) (sym same)) ∙ is
