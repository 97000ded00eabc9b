-- Which nodes of what is left wait, by their shape, weight and first token; and the children of a node, one after another.
use Rattle.std.proofs.Common.{◌≡◌, inl, inr, ℕ, zero, suc, ◌+◌, ◌<◌, ◌≤◌, Bool, true, false, List, [], ◌∷◌, length}
use Rattle.std.proofs.Common.{get_or, Option, Some, None, slice_get, IsSome, refl, sym, ap, ◌∙◌, arith}
use Rattle.std.specs.Option.{option_and_then, option_map, option_map_or}
use Rattle.std.proofs.Math.Numerals.{add-one}
use Rattle.std.proofs.lemmas.Bool.{cases_eq, cond-true, false≢true, lt-ltb}
use Rattle.std.proofs.lemmas.Option.{none-some, same_Some}
use Rattle.normal_form.specs.Form.{NormalForm}
use Rattle.node_queue.specs.Waiting.{Waiting, with_node}
use Rattle.syntax_tree.specs.Trees.{PlainTree, PlainTrees, children_of, leaves, size, size_all, weight}
use Rattle.syntax_tree.specs.Numbered.{NumbersRise, number_of, roots, subtree, subtree_among}
use Rattle.syntax_tree.specs.Nodes.{later_trees}
use Rattle.syntax_tree.proofs.Lent.{AreWithin, or_some, root_found}
use Rattle.syntax_tree_cut.specs.declared.shape.Shape.{Shape}
use Rattle.syntax_tree_cut.specs.declared.shape.Shape.TheVariants.{Leaf, Star, Plus, Optional, Regular}
use Rattle.syntax_tree_cut.specs.Shapes.{shape_of}
use Rattle.syntax_tree_cut.proofs.Lent.{when_equal, when_not}
use Rattle.reduce_perses.specs.Queued.{first_token, nodes_in, waiting_of, waits, with_trees}
use Rattle.reduce_perses.proofs.NodeFacts.{child_found, children_within, first_found, is_some, later_found, node_deeper, node_rises}
use Rattle.reduce_perses.proofs.Queues.{nodes_more}
use Rattle.reduce_perses.specs.inner.Visiting.{size_at}

-- what has no leaf's shape and has a leaf waits
heavy_waits : (N : NormalForm) (u : PlainTree) → (shape_of N u ≡ Some Leaf → ⊥) → 0 < weight u → waits u ≡ true
heavy_waits N (PlainTree.leaf n k i) other heavy = absurd (other refl)
heavy_waits N (PlainTree.node n r a ts) other heavy = lt-ltb 0 (weight (PlainTree.node n r a ts)) heavy

-- a node has the number by which it is found
mutual
  pub number_found : (q : ℕ) (t u : PlainTree) → subtree q t ≡ Some u → number_of u ≡ q
  number_found q (PlainTree.leaf n k i) u e = elim (cases_eq n q) [
    | inl is ↦ ap number_of (sym (same_Some (PlainTree.leaf n k i) u (sym (when_equal n q (Some (PlainTree.leaf n k i)) None is) ∙ e))) ∙ is
    | inr other ↦ absurd (none-some u (sym (when_not n q (Some (PlainTree.leaf n k i)) None other) ∙ e))
  ]
  number_found q (PlainTree.node n r a ts) u e = elim (cases_eq n q) [
    | inl is ↦ ap number_of (sym (same_Some (PlainTree.node n r a ts) u (sym (when_equal n q (Some (PlainTree.node n r a ts)) (subtree_among q ts) is) ∙ e)))
        ∙ is
    | inr other ↦ number_found_among q ts u (sym (when_not n q (Some (PlainTree.node n r a ts)) (subtree_among q ts) other) ∙ e)
  ]

  number_found_among : (q : ℕ) (ts : PlainTrees) (u : PlainTree) → subtree_among q ts ≡ Some u → number_of u ≡ q
  number_found_among q PlainTrees.none u e = absurd (none-some u e)
  number_found_among q (PlainTrees.next t ts) u e = elim (or_some (subtree q t) (subtree_among q ts) u e) [
    | inl first ↦ number_found q t u first
    | inr later ↦ number_found_among q ts u later.1
  ]

first_is : (tokens : List ℕ) (first : ℕ) → slice_get tokens 0 ≡ Some first → first_token tokens ≡ first
first_is [] first e = absurd (none-some first e)
first_is (i ∷ tokens) first e = same_Some i first e

-- as a tree waits that is left
pub waiting_is : (u : PlainTree) (node heavy first : ℕ) → number_of u ≡ node → weight u ≡ heavy → slice_get (leaves u) 0 ≡ Some first
    → waiting_of u ≡ record { node = node; weight = heavy; first = first }
waiting_is u node heavy first number weighs e =
    let one : first_token (leaves u) ≡ first = first_is (leaves u) first e in
    λ i. record { node = number i; weight = weighs i; first = one i }

-- whether this is the shape of a leaf
abbrev pub is_leaf : Shape → Bool
is_leaf Leaf = true
is_leaf Star = false
is_leaf Plus = false
is_leaf Optional = false
is_leaf Regular = false

-- the queue with a node that waits
module _ (N : NormalForm) (t : PlainTree) (node heavy first : ℕ) (shape : Shape)
    (shape_is : option_and_then (shape_of N) (subtree node t) ≡ Some shape) (other : is_leaf shape ≡ false)
    (weighs : option_map weight (subtree node t) ≡ Some heavy) (some : 0 < heavy)
    (first_is_it : option_and_then (λ u. slice_get (leaves u) 0) (subtree node t) ≡ Some first) where
  pub with_waiting : (queue : List Waiting) (u : PlainTree) → subtree node t ≡ Some u
      → with_node (record { node = node; weight = heavy; first = first }) queue ≡ with_trees (PlainTrees.next u PlainTrees.none) queue
  with_waiting queue u e =
      let weight_is : weight u ≡ heavy = same_Some (weight u) heavy (sym (ap (option_map weight) e) ∙ weighs) in
      let no : shape_of N u ≡ Some Leaf → ⊥ =
      λ leaf. false≢true (sym other ∙ ap is_leaf (same_Some shape Leaf (sym shape_is ∙ ap (option_and_then (shape_of N)) e ∙ leaf))) in
      let is : waits u ≡ true = heavy_waits N u no (omega (arith, weight_is, some)) in
      let entry =
      waiting_is u node heavy first (number_found node t u e) weight_is
      (sym (ap (option_and_then (λ (v : PlainTree). slice_get (leaves v) 0)) e) ∙ first_is_it) in
      ap (λ (w : Waiting). with_node w queue) (sym entry) ∙ sym (cond-true (waits u) (with_node (waiting_of u) queue) queue is)

-- one of several trees, and those after it
pub record HasTree (ts : PlainTrees) (i : ℕ) (d : ℕ) : Type 0 where
  pub tree : PlainTree
  pub number : get_or (roots ts) i d ≡ number_of tree
  pub found : subtree_among (number_of tree) ts ≡ Some tree
  pub later : later_trees i ts ≡ PlainTrees.next tree (later_trees (suc i) ts)

tree_at : (low high : ℕ) (ts : PlainTrees) (i d : ℕ) → AreWithin low high ts → i < length (roots ts) → HasTree ts i d
tree_at low high PlainTrees.none i d within lt = absurd (omega (arith, lt))
tree_at low high (PlainTrees.next t ts) zero d within lt =
    record { tree = t; number = refl; found = first_found (number_of t) t ts t (root_found t); later = refl }
tree_at low high (PlainTrees.next t ts) (suc i) d within lt =
    let it = tree_at within.0 high ts i d within.2 (omega (arith, lt)) in
    record {
      tree = it.tree;
      number = it.number;
      found = later_found low within.0 high (number_of it.tree) t ts it.tree within.1 within.2 it.found;
      later = it.later;
    }

none_after : (ts : PlainTrees) (i : ℕ) → length (roots ts) ≤ i → later_trees i ts ≡ PlainTrees.none
none_after PlainTrees.none zero le = refl
none_after PlainTrees.none (suc i) le = refl
none_after (PlainTrees.next t ts) zero le = absurd (omega (arith, le))
none_after (PlainTrees.next t ts) (suc i) le = none_after ts i (omega (arith, le))

children_are_within : (u : PlainTree) → NumbersRise u → (low : ℕ) × (high : ℕ) × AreWithin low high (children_of u)
children_are_within (PlainTree.leaf n k i) rise = (0, 0, omega arith)
children_are_within (PlainTree.node n r a ts) rise = let within = children_within n r a ts rise in (n + 1, within.0, within.1)

in_children : (u : PlainTree) → NumbersRise u → (p : ℕ) (y : PlainTree) → subtree_among p (children_of u) ≡ Some y → subtree p u ≡ Some y
in_children (PlainTree.leaf n k i) rise p y e = absurd (none-some y e)
in_children (PlainTree.node n r a ts) rise p y e = let within = children_within n r a ts rise in child_found within.0 n r a p ts y within.1 e

-- The children of a node of the tree, with the numbers that a call gave.
module _ (t : PlainTree) (rise : NumbersRise t) (node : ℕ) (u : PlainTree) (e : subtree node t ≡ Some u) (numbers : List ℕ)
    (are : numbers ≡ roots (children_of u)) where
  child_at : (i d : ℕ) → i < length numbers → HasTree (children_of u) i d
  child_at i d lt =
      let within = children_are_within u (node_rises node t u rise e) in
      tree_at within.0 within.1 (children_of u) i d within.2 (let same = ap length are in omega (arith, lt, same))

  child_there : (i d : ℕ) (lt : i < length numbers) → subtree (get_or numbers i d) t ≡ Some (child_at i d lt).tree
  child_there i d lt =
      let it = child_at i d lt in
      let number : get_or numbers i d ≡ number_of it.tree = ap (λ (l : List ℕ). get_or l i d) are ∙ it.number in
      ap (λ (n : ℕ). subtree n t) number
      ∙ node_deeper node (number_of it.tree) t u it.tree rise e (in_children u (node_rises node t u rise e) (number_of it.tree) it.tree it.found)

  pub child_left : (i d : ℕ) → i < length numbers → IsSome (subtree (get_or numbers i d) t)
  child_left i d lt = is_some (subtree (get_or numbers i d) t) (child_at i d lt).tree (child_there i d lt)

  -- one child more is in the queue, if it can wait
  pub child_waits : (i d : ℕ) → i < length numbers → (old now new : List Waiting)
      → with_trees (later_trees i (children_of u)) now ≡ with_trees (children_of u) old
      → ((x : PlainTree) → subtree (get_or numbers i d) t ≡ Some x → new ≡ with_trees (PlainTrees.next x PlainTrees.none) now)
      → with_trees (later_trees (i + 1) (children_of u)) new ≡ with_trees (children_of u) old
  child_waits i d lt old now new so_far pushed =
      let it = child_at i d lt in
      ap (λ (k : ℕ). with_trees (later_trees k (children_of u)) new) (add-one i)
      ∙ ap (λ (q : List Waiting). with_trees (later_trees (suc i) (children_of u)) q) (pushed it.tree (child_there i d lt))
      ∙ ap (λ (ts : PlainTrees). with_trees ts now) (sym it.later)
      ∙ so_far

  pub children_wait : (i : ℕ) → length numbers ≤ i → (old now : List Waiting) → with_trees (later_trees i (children_of u)) now ≡ with_trees (children_of u) old
      → now ≡ with_trees (children_of u) old
  children_wait i over old now so_far =
      ap (λ (ts : PlainTrees). with_trees ts now) (sym (none_after (children_of u) i (let same = ap length are in omega (arith, over, same)))) ∙ so_far

-- Where the children of a node wait in its stead, fewer nodes are in those that wait.
pub children_fewer : (t : PlainTree) (n r a : ℕ) (ts : PlainTrees) (queue : List Waiting) → NumbersRise t → subtree n t ≡ Some (PlainTree.node n r a ts)
    → nodes_in t (with_trees ts queue) < size_at n t + nodes_in t queue
children_fewer t n r a ts queue rise e =
    let within = children_within n r a ts (node_rises n t (PlainTree.node n r a ts) rise e) in
    let more =
    nodes_more t (n + 1) within.0 ts queue within.1
    (λ p y f. node_deeper n p t (PlainTree.node n r a ts) y rise e (child_found within.0 n r a p ts y within.1 f)) in
    let whole : size_at n t ≡ suc (size_all ts) = ap (λ (o : Option PlainTree). option_map_or size o 0) e in
    omega (arith, more, whole)
