-- Lists of trees one after the other, and trees with another list of children at a node.
use Rattle.std.proofs.Common.{◌≡◌, inl, inr, ℕ, zero, suc, ◌+◌, ◌≤◌, List, [], ◌∷◌, Some, None, length, slice_get, drop, refl, sym, ap, ◌∙◌, arith}
use Rattle.std.specs.Prelude.{Bool, true, false}
use Rattle.std.specs.List.{Contains}
use Rattle.std.proofs.lemmas.Bool.{cases_eq, false≢true}
use Rattle.std.proofs.lemmas.List.{drop_more}
use Rattle.std.proofs.lemmas.Option.{get_or_from_slice_get, none-some, slice_get_within}
use Rattle.syntax_tree.specs.Trees.{PlainTree, PlainTrees, count}
use Rattle.syntax_tree.specs.Numbered.{number_of, roots, subtree, subtree_among, with_subtree, with_subtree_among}
use Rattle.syntax_tree.specs.Left.{selected_trees}
use Rattle.syntax_tree_cut.specs.Cuts.{without}
use Rattle.syntax_tree_cut.specs.inner.Keeping.{with_trees_after}
use Rattle.syntax_tree_cut.proofs.Rising.{Rises, RiseAll, cases_or, found_among_within, not_found, number_within, or_first}
use Rattle.syntax_tree_cut.proofs.Rising.{or_second, subtree_below, subtree_own, when_equal, when_not}
use Rattle.syntax_tree_cut.proofs.Deletions.{with_outside}

pub after_more : (ts : PlainTrees) (t : PlainTree) (us : PlainTrees)
    → with_trees_after (with_trees_after ts (PlainTrees.next t PlainTrees.none)) us ≡ with_trees_after ts (PlainTrees.next t us)
after_more PlainTrees.none t us = refl
after_more (PlainTrees.next u ts) t us = ap (λ (vs : PlainTrees). PlainTrees.next u vs) (after_more ts t us)

pub after_count : (ts us : PlainTrees) → count (with_trees_after ts us) ≡ count ts + count us
after_count PlainTrees.none us = omega arith
after_count (PlainTrees.next t ts) us = let rest = after_count ts us in omega (arith, rest)

pub selected_count : (mask : List Bool) (ts : PlainTrees) → count (selected_trees mask ts) ≤ count ts
selected_count [] ts = omega arith
selected_count (b ∷ mask) PlainTrees.none = omega arith
selected_count (true ∷ mask) (PlainTrees.next t ts) = let rest = selected_count mask ts in omega (arith, rest)
selected_count (false ∷ mask) (PlainTrees.next t ts) = let rest = selected_count mask ts in omega (arith, rest)

pub selected_none : (mask : List Bool) → selected_trees mask PlainTrees.none ≡ PlainTrees.none
selected_none [] = refl
selected_none (b ∷ mask) = refl

later_true : (mask : List Bool) → Contains (false ∷ mask) true → Contains mask true
later_true mask (zero, lt, e) = absurd (false≢true e)
later_true mask (suc k, lt, e) = (k, omega (arith, lt), e)

-- flags of which one is true select something
pub some_selected : (mask : List Bool) (ts : PlainTrees) → Contains mask true → length mask ≡ count ts → 1 ≤ count (selected_trees mask ts)
some_selected [] ts has e = absurd (let lt = has.1 in omega (arith, lt))
some_selected (b ∷ mask) PlainTrees.none has e = absurd (omega (arith, e))
some_selected (true ∷ mask) (PlainTrees.next t ts) has e = omega arith
some_selected (false ∷ mask) (PlainTrees.next t ts) has e = some_selected mask ts (later_true mask has) (omega (arith, e))

pub next_flag : (mask : List Bool) (k : ℕ) (b : Bool) → slice_get mask k ≡ Some b → drop k mask ≡ b ∷ drop (k + 1) mask
next_flag mask k b e = drop_more mask k b (slice_get_within mask k b e) ∙ ap (λ (x : Bool). x ∷ drop (k + 1) mask) (get_or_from_slice_get mask k b b e)

-- a tree between others is one of them
pub after_has : (ts : PlainTrees) (t : PlainTree) (us : PlainTrees) → Contains (roots (with_trees_after ts (PlainTrees.next t us))) (number_of t)
after_has PlainTrees.none t us = (zero, omega arith, refl)
after_has (PlainTrees.next u ts) t us = let rest = after_has ts t us in (suc rest.0, (let lt = rest.1 in omega (arith, lt)), rest.2)

pub after_found : (low high : ℕ) (ts : PlainTrees) (t : PlainTree) (us : PlainTrees) → RiseAll low high (with_trees_after ts (PlainTrees.next t us))
    → subtree_among (number_of t) (with_trees_after ts (PlainTrees.next t us)) ≡ Some t
after_found low high PlainTrees.none t us h = or_first (subtree (number_of t) t) (subtree_among (number_of t) us) t (subtree_own (number_of t) t refl)
after_found low high (PlainTrees.next u ts) t us h =
    let rest = after_found h.0 high ts t us h.2 in
    let within = found_among_within h.0 high (with_trees_after ts (PlainTrees.next t us)) h.2 (number_of t) t rest in
    or_second (subtree (number_of t) u) (subtree_among (number_of t) (with_trees_after ts (PlainTrees.next t us)))
    (not_found low h.0 u h.1 (number_of t) (inr within.0)) ∙ rest

pub after_without : (low high : ℕ) (ts : PlainTrees) (t : PlainTree) (us : PlainTrees) → RiseAll low high (with_trees_after ts (PlainTrees.next t us))
    → without (number_of t) (with_trees_after ts (PlainTrees.next t us)) ≡ with_trees_after ts us
after_without low high PlainTrees.none t us h = when_equal (number_of t) (number_of t) us (PlainTrees.next t (without (number_of t) us)) refl
after_without low high (PlainTrees.next u ts) t us h =
    let found = after_found h.0 high ts t us h.2 in
    let within = found_among_within h.0 high (with_trees_after ts (PlainTrees.next t us)) h.2 (number_of t) t found in
    let own = number_within low h.0 u h.1 in
    when_not (number_of u) (number_of t) (with_trees_after ts (PlainTrees.next t us))
    (PlainTrees.next u (without (number_of t) (with_trees_after ts (PlainTrees.next t us)))) (λ (e : number_of u ≡ number_of t). omega (arith, e, own, within))
    ∙ ap (λ (vs : PlainTrees). PlainTrees.next u vs) (after_without h.0 high ts t us h.2)

with_own : (q : ℕ) (w u : PlainTree) → number_of u ≡ q → with_subtree q w u ≡ w
with_own q w (PlainTree.leaf n k i) e = when_equal n q w (PlainTree.leaf n k i) e
with_own q w (PlainTree.node n r a ts) e = when_equal n q w (PlainTree.node n r a (with_subtree_among q w ts)) e

-- another tree with the number of a node, at the node's position
module _ (q : ℕ) (w : PlainTree) (own : number_of w ≡ q) where
  -- may be replaced again
  mutual
    pub with_again : (v t : PlainTree) → with_subtree q v (with_subtree q w t) ≡ with_subtree q v t
    with_again v (PlainTree.leaf n k i) =
        elim (cases_eq n q) [
          | inl same ↦ ap (with_subtree q v) (when_equal n q w (PlainTree.leaf n k i) same) ∙ with_own q v w own
              ∙ sym (when_equal n q v (PlainTree.leaf n k i) same)
          | inr other ↦ ap (with_subtree q v) (when_not n q w (PlainTree.leaf n k i) other)
        ]
    with_again v (PlainTree.node n r a ts) =
        elim (cases_eq n q) [
          | inl same ↦
              ap (with_subtree q v) (when_equal n q w (PlainTree.node n r a (with_subtree_among q w ts)) same) ∙ with_own q v w own
              ∙ sym (when_equal n q v (PlainTree.node n r a (with_subtree_among q v ts)) same)
          | inr other ↦
              ap (with_subtree q v) (when_not n q w (PlainTree.node n r a (with_subtree_among q w ts)) other)
              ∙ when_not n q v (PlainTree.node n r a (with_subtree_among q v (with_subtree_among q w ts))) other
              ∙ ap (λ (us : PlainTrees). PlainTree.node n r a us) (with_again_among v ts)
              ∙ sym (when_not n q v (PlainTree.node n r a (with_subtree_among q v ts)) other)
        ]

    pub with_again_among : (v : PlainTree) (ts : PlainTrees) → with_subtree_among q v (with_subtree_among q w ts) ≡ with_subtree_among q v ts
    with_again_among v PlainTrees.none = refl
    with_again_among v (PlainTrees.next t ts) =
        ap (λ (x : PlainTree). PlainTrees.next x (with_subtree_among q v (with_subtree_among q w ts))) (with_again v t)
        ∙ ap (λ (us : PlainTrees). PlainTrees.next (with_subtree q v t) us) (with_again_among v ts)

  -- and is found by the number
  mutual
    pub found_with : (low high : ℕ) (t : PlainTree) → Rises low high t → (u : PlainTree) → subtree q t ≡ Some u → subtree q (with_subtree q w t) ≡ Some w
    found_with low high (PlainTree.leaf n k i) h u e =
        elim (cases_eq n q) [
          | inl same ↦ ap (subtree q) (when_equal n q w (PlainTree.leaf n k i) same) ∙ subtree_own q w own
          | inr other ↦ absurd (none-some u (sym (when_not n q (Some (PlainTree.leaf n k i)) None other) ∙ e))
        ]
    found_with low high (PlainTree.node n r a ts) h u e =
        elim (cases_eq n q) [
          | inl same ↦ ap (subtree q) (when_equal n q w (PlainTree.node n r a (with_subtree_among q w ts)) same) ∙ subtree_own q w own
          | inr other ↦
              ap (subtree q) (when_not n q w (PlainTree.node n r a (with_subtree_among q w ts)) other)
              ∙ subtree_below q n r a (with_subtree_among q w ts) other
              ∙ found_with_among (n + 1) high ts h.1 u (sym (subtree_below q n r a ts other) ∙ e)
        ]

    pub found_with_among : (low high : ℕ) (ts : PlainTrees) → RiseAll low high ts → (u : PlainTree) → subtree_among q ts ≡ Some u
        → subtree_among q (with_subtree_among q w ts) ≡ Some w
    found_with_among low high PlainTrees.none h u e = absurd (none-some u e)
    found_with_among low high (PlainTrees.next t ts) h u e =
        elim (cases_or (subtree q t) (subtree_among q ts) u e) [
          | inl found ↦ or_first (subtree q (with_subtree q w t)) (subtree_among q (with_subtree_among q w ts)) w (found_with low h.0 t h.1 u found)
          | inr both ↦
              let within = found_among_within h.0 high ts h.2 q u both.1 in
              or_second (subtree q (with_subtree q w t)) (subtree_among q (with_subtree_among q w ts))
              (ap (subtree q) (with_outside q w low h.0 t h.1 (inr within.0)) ∙ both.0)
              ∙ found_with_among h.0 high ts h.2 u both.1
        ]
