-- The number after those of a node and of all below it.
use Rattle.std.proofs.Common.{◌≡◌, inl, inr, ℕ, zero, suc, ◌+◌, ◌<◌, ◌≤◌, List, Some, None, nat_eq, slice_get, get_or, set, length}
use Rattle.std.proofs.Common.{refl, sym, ap, ◌∙◌, subst, arith, length-set, get_or-set_same, get_or-set_other}
use Rattle.std.proofs.lemmas.Bool.{cases_Bool, cases_eq, cond-false, cond-true, eqb-true}
use Rattle.std.proofs.lemmas.Option.{get_or_from_slice_get, same_Some, none-some, slice_get-get_or, slice_get_within}
use Rattle.normal_form.specs.declared.normal.Sym.{Sym}
use Rattle.normal_form.specs.declared.normal.Sym.TheVariants.{Kind}
use Rattle.normal_form.specs.Form.{NormalForm}
use Rattle.syntax_tree.specs.declared.node.Node.{Node}
use Rattle.syntax_tree.specs.Trees.{PlainTree, PlainTrees, IsInSome, below, children_of, count, in_first}
use Rattle.syntax_tree.specs.Trees.{in_later, itself, renumbered, renumbered_all, size, size_all}
use Rattle.syntax_tree.specs.Numbered.{number_of, subtree, subtree_among}
use Rattle.syntax_tree.specs.Nodes.{AreNodesOf, later_trees, whole_of}
use Rattle.syntax_tree.specs.inner.Nodes.{AreAfters, HaveAfters}
use Rattle.syntax_tree.proofs.Within.{found, numbered_within, or_some}
use Rattle.syntax_tree.proofs.Finding.{deeper, is_found}
use Rattle.syntax_tree.proofs.NodeLists.{as_many, subtrees}

-- What is known after i of so many trees.
pub record IsAfterSome (after : List ℕ) (i first number : ℕ) (ts : PlainTrees) : Type 0 where
  pub more : HaveAfters after number (later_trees i ts)
  pub ends : number + size_all (later_trees i ts) ≡ first + size_all ts

pub step_after : (after : List ℕ) (i number : ℕ) (ts : PlainTrees) → i < count ts → HaveAfters after number (later_trees i ts) →
    (number < length after) × HaveAfters after (get_or after number 0) (later_trees (suc i) ts)
    × (get_or after number 0 + size_all (later_trees (suc i) ts) ≡ number + size_all (later_trees i ts))
step_after after i number PlainTrees.none within have = absurd (omega (arith, within))
step_after after zero number (PlainTrees.next t ts) within have =
    let is : get_or after number 0 ≡ number + size t = get_or_from_slice_get after number (number + size t) 0 have.0 in
    let P : ℕ → Type 0 = λ n. HaveAfters after n ts in
    (slice_get_within after number (number + size t) have.0, subst P (sym is) have.1, omega (arith, is))
step_after after (suc i) number (PlainTrees.next t ts) within have = step_after after i number ts (omega (arith, within)) have

pub next_after : (after : List ℕ) (i first number : ℕ) (ts : PlainTrees) → i < count ts → IsAfterSome after i first number ts
    → IsAfterSome after (i + 1) first (get_or after number 0) ts
next_after after i first number ts within is =
    let it = step_after after i number ts within is.more in
    let P : ℕ → Type 0 = λ n. IsAfterSome after n first (get_or after number 0) ts in
    let e : suc i ≡ i + 1 = omega arith in
    let ends : number + size_all (later_trees i ts) ≡ first + size_all ts = is.ends in
    subst P e (record { more = it.1; ends = omega (arith, it.2, ends) })

pub end_after : (after : List ℕ) (i first number : ℕ) (ts : PlainTrees) → count ts ≡ i → IsAfterSome after i first number ts → number ≡ first + size_all ts
end_after after i first number ts e is =
    let over : size_all (later_trees i ts) ≡ 0 = no_later i ts e in
    omega (arith, over, is.ends)
  where
    no_later : (i : ℕ) (ts : PlainTrees) → count ts ≡ i → size_all (later_trees i ts) ≡ 0
    no_later zero PlainTrees.none e = refl
    no_later zero (PlainTrees.next t ts) e = absurd (omega (arith, e))
    no_later (suc i) PlainTrees.none e = refl
    no_later (suc i) (PlainTrees.next t ts) e = no_later i ts (omega (arith, e))

-- So it is of the nodes with the numbers from `low` on.
abbrev pub AreAftersFrom : List ℕ → ℕ → PlainTree → Type 0
AreAftersFrom after low t = (q : ℕ) (u : PlainTree) → low ≤ q → subtree q t ≡ Some u → slice_get after q ≡ Some (q + size u)

number_is : (n : ℕ) (t : PlainTree) → renumbered n t ≡ t → number_of t ≡ n
number_is n (PlainTree.leaf m k i) e = cc
number_is n (PlainTree.node m r a ts) e = cc

numbered_same : (n q : ℕ) (t u : PlainTree) → renumbered n t ≡ t → number_of t ≡ n → number_of t ≡ q → t ≡ u → renumbered q u ≡ u
numbered_same n q t u e number is same =
    let at : n ≡ q = sym number ∙ is in
    let P : PlainTree → Type 0 = λ y. renumbered q y ≡ y in
    let Q : ℕ → Type 0 = λ k. renumbered k t ≡ t in
    subst P same (subst Q at e)

mutual
  -- what is below is numbered one after another too
  numbered_below : (n q : ℕ) (t u : PlainTree) → renumbered n t ≡ t → subtree q t ≡ Some u → renumbered q u ≡ u
  numbered_below n q (PlainTree.leaf m k i) u e f = elim (cases_Bool (nat_eq m q)) [
    | inl is ↦ numbered_same n q (PlainTree.leaf m k i) u e (number_is n (PlainTree.leaf m k i) e) (eqb-true m q is)
        (same_Some (PlainTree.leaf m k i) u (sym (cond-true (nat_eq m q) (Some (PlainTree.leaf m k i)) None is) ∙ f))
    | inr is ↦ absurd (none-some u (sym (cond-false (nat_eq m q) (Some (PlainTree.leaf m k i)) None is) ∙ f))
  ]
  numbered_below n q (PlainTree.node m r a ts) u e f = elim (cases_Bool (nat_eq m q)) [
    | inl is ↦
        numbered_same n q (PlainTree.node m r a ts) u e (number_is n (PlainTree.node m r a ts) e) (eqb-true m q is)
        (same_Some (PlainTree.node m r a ts) u (sym (cond-true (nat_eq m q) (Some (PlainTree.node m r a ts)) (subtree_among q ts) is) ∙ f))
    | inr is ↦ let later : renumbered_all (n + 1) ts ≡ ts =
        cc in numbered_among (n + 1) q ts u later (sym (cond-false (nat_eq m q) (Some (PlainTree.node m r a ts)) (subtree_among q ts) is) ∙ f)
  ]

  numbered_among : (n q : ℕ) (ts : PlainTrees) (u : PlainTree) → renumbered_all n ts ≡ ts → subtree_among q ts ≡ Some u → renumbered q u ≡ u
  numbered_among n q PlainTrees.none u e f = absurd (none-some u f)
  numbered_among n q (PlainTrees.next t ts) u e f =
      let first : renumbered n t ≡ t = cc in
      let later : renumbered_all (n + size t) ts ≡ ts = cc in
      elim (or_some (subtree q t) (subtree_among q ts) u f) [
        | inl one ↦ numbered_below n q t u first one
        | inr more ↦ numbered_among (n + size t) q ts u later more.1
      ]

have_afters : (after : List ℕ) (low n : ℕ) (t : PlainTree) (ts : PlainTrees) → AreAftersFrom after low t → low ≤ n → renumbered_all n ts ≡ ts
    → ((c : PlainTree) → IsInSome c ts → subtree (number_of c) t ≡ Some c) → HaveAfters after n ts
have_afters after low n t PlainTrees.none are l e each = tt
have_afters after low n t (PlainTrees.next c ts) are l e each =
    let first : renumbered n c ≡ c = cc in
    let later : renumbered_all (n + size c) ts ≡ ts = cc in
    let number = number_is n c first in (
      are n c l (ap (λ q. subtree q t) (sym number) ∙ each c (in_first c c ts (itself c))),
      have_afters after low (n + size c) t ts are (omega (arith, l)) later (λ d i. each d (in_later d c ts i)),
    )

-- The children of a node, where it is known of all numbers after the node's own.
pub children_have : (after : List ℕ) (k : ℕ) (t u : PlainTree) → renumbered 0 t ≡ t → subtree k t ≡ Some u → AreAftersFrom after (k + 1) t
    → HaveAfters after (k + 1) (children_of u)
children_have after k t (PlainTree.leaf m l i) e f are = tt
children_have after k t (PlainTree.node m r a ts) e f are =
    let numbered : renumbered k (PlainTree.node m r a ts) ≡ PlainTree.node m r a ts = numbered_below 0 k t (PlainTree.node m r a ts) e f in
    let later : renumbered_all (k + 1) ts ≡ ts = cc in
    have_afters after (k + 1) (k + 1) t ts are (omega arith) later
    (λ c i. deeper 0 (0 + size t) k (number_of c) t (PlainTree.node m r a ts) c (numbered_within 0 t e) f
    (is_found k (k + size (PlainTree.node m r a ts)) (PlainTree.node m r a ts) c (numbered_within k (PlainTree.node m r a ts) numbered) (below c m r a ts i)))

children_size : (u : PlainTree) → size u ≡ 1 + size_all (children_of u)
children_size (PlainTree.leaf n k i) = refl
children_size (PlainTree.node n r a ts) = omega arith

-- one more node
pub set_after : (after : List ℕ) (k v : ℕ) (t u : PlainTree) → k < length after → subtree k t ≡ Some u → v ≡ k + 1 + size_all (children_of u)
    → AreAftersFrom after (k + 1) t → AreAftersFrom (set after k v) k t
set_after after k v t u within f is are q w low e = elim (cases_eq q k) [
  | inl same ↦
      let one : w ≡ u = same_Some w u (sym e ∙ ap (λ n. subtree n t) same ∙ f) in
      let long : length (set after k v) ≡ length after = length-set after k v in
      let value : v ≡ q + size w = omega (arith, is, children_size u, ap size one, same) in
      ap (slice_get (set after k v)) same ∙ slice_get-get_or (set after k v) k 0 (omega (arith, within, long))
      ∙ ap (λ (n : ℕ). Some n) (get_or-set_same after k v 0 within ∙ value)
  | inr other ↦
      let old = are q w (omega (arith, low, other)) e in
      let inside : q < length after = slice_get_within after q (q + size w) old in
      let long : length (set after k v) ≡ length after = length-set after k v in
      slice_get-get_or (set after k v) q 0 (omega (arith, inside, long))
      ∙ ap (λ (n : ℕ). Some n) (get_or-set_other after k q v 0 other ∙ get_or_from_slice_get after q (q + size w) 0 old)
]

-- what is read past the end
abbrev pub no_node : Node
no_node = record { sym = Kind 0; slot = Kind 0; alt = 0; children = 0; parent = None; first = 0; end = 0 }

module _ (N : NormalForm) (s : Sym) (nodes : List Node) (is : AreNodesOf N s nodes (whole_of nodes)) where
  pub no_past : (after : List ℕ) → AreAftersFrom after (length nodes) (whole_of nodes)
  no_past after q u low e =
      let long : length nodes ≡ size (whole_of nodes) = ap length is.are ∙ as_many N s None 0 (whole_of nodes) is.whole.valid in
      absurd (omega
      (arith, long, low, (found 0 (0 + size (whole_of nodes)) q (whole_of nodes) u (numbered_within 0 (whole_of nodes) is.whole.numbered) e).below))

  pub node_at : (q : ℕ) (x : Node) → slice_get nodes q ≡ Some x → (u : PlainTree) × (subtree q (whole_of nodes) ≡ Some u) × (x.children ≡ count (children_of u))
  node_at q x e = let it = subtrees (record { form = N; start = s; nodes = nodes }) is q x e in (it.0, it.1.subtree_is, it.1.children)

  -- the children of the node at an index
  pub children_at : (after : List ℕ) (q : ℕ) (x : Node) → slice_get nodes q ≡ Some x → AreAftersFrom after (q + 1) (whole_of nodes) → (ts : PlainTrees)
      × (count ts ≡ x.children) × HaveAfters after (q + 1) ts
  children_at after q x e are = let it = node_at q x e in (children_of it.0, sym it.2, children_have after q (whole_of nodes) it.0 is.whole.numbered it.1 are)

  pub more_afters : (after : List ℕ) (q v : ℕ) (x : Node) → slice_get nodes q ≡ Some x → q < length after
      → ((ts : PlainTrees) → count ts ≡ x.children → HaveAfters after (q + 1) ts → v ≡ q + 1 + size_all ts) →
      AreAftersFrom after (q + 1) (whole_of nodes) → AreAftersFrom (set after q v) q (whole_of nodes)
  more_afters after q v x e within says are =
      let it = node_at q x e in
      set_after after q v (whole_of nodes) it.0 within it.1
      (says (children_of it.0) (sym it.2) (children_have after q (whole_of nodes) it.0 is.whole.numbered it.1 are)) are

  pub after_is : (after : List ℕ) (q : ℕ) (x : Node) → slice_get nodes q ≡ Some x → AreAfters after (whole_of nodes) → (u : PlainTree)
      × (subtree q (whole_of nodes) ≡ Some u) × (slice_get after q ≡ Some (q + size u))
  after_is after q x e are = let it = node_at q x e in (it.0, it.1, are q it.0 it.1)
