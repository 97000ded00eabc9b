-- The nodes of a tree as a list.
use Rattle.std.proofs.Common.{◌≡◌, ◌⊎◌, inl, inr, ℕ, zero, suc, ◌+◌, ◌<◌, true, false, List, [], ◌∷◌, ◌++◌, Option, Some, None}
use Rattle.std.proofs.Common.{nat_eq, slice_get, length, refl, sym, ap, ◌∙◌, subst, arith, length-append}
use Rattle.std.specs.Option.{option_or}
use Rattle.std.proofs.lemmas.Bool.{cond-false, cond-true, eq-eqb, ne_eqb}
use Rattle.std.proofs.lemmas.Option.{same_Some, none-some, slice_get_cases}
use Rattle.normal_form.specs.declared.normal.Sym.{Sym}
use Rattle.normal_form.specs.declared.normal.Sym.TheVariants.{Kind, Rule}
use Rattle.normal_form.specs.Form.{NormalForm}
use Rattle.syntax_tree.specs.declared.node.Node.{Node}
use Rattle.syntax_tree.specs.Trees.{PlainTree, PlainTrees, HasTokensFrom, HaveTokensFrom, children_of, count}
use Rattle.syntax_tree.specs.Trees.{renumbered, renumbered_all, size, size_all, symbol_of, weight}
use Rattle.syntax_tree.specs.Valid.{IsValid, AreValid, slot_at, slot_among, slots_of}
use Rattle.syntax_tree.specs.Numbered.{subtree, subtree_among}
use Rattle.syntax_tree.specs.Nodes.{nodes_of, nodes_of_all, whole}
use Rattle.syntax_tree.specs.NodeLaws.{IsNodeOf, NodesAreSubtrees, SubtreesHaveNodes, WholeTreesRise}
use Rattle.syntax_tree.proofs.Decoding.{children_valid, no_slots, slot_valid}
use Rattle.syntax_tree.proofs.Within.{found, lacks_slot, lacks_subtree, numbered_within, outside, rise_from}

-- where an element of two lists is
get_append : (xs ys : List Node) (k : ℕ) (x : Node) → slice_get (xs ++ ys) k ≡ Some x → (slice_get xs k ≡ Some x)
    ⊎ ((j : ℕ) × (k ≡ length xs + j) × (slice_get ys j ≡ Some x))
get_append [] ys k x e = inr (k, omega arith, e)
get_append (y ∷ xs) ys zero x e = inl e
get_append (y ∷ xs) ys (suc k) x e = elim (get_append xs ys k x e) [
  | inl first ↦ inl first
  | inr later ↦ let is : k ≡ length xs + later.0 = later.1 in inr (later.0, omega (arith, is), later.2)
]

module _ (N : NormalForm) where
  mutual
    -- a node each
    pub as_many : (s : Sym) (parent : Option ℕ) (f : ℕ) (t : PlainTree) → IsValid N s t → length (nodes_of N s parent f t) ≡ size t
    as_many s parent f (PlainTree.leaf n k i) valid = refl
    as_many s parent f (PlainTree.node n r a ts) valid = ap suc (as_many_all (slots_of N r a ts) (Some n) f ts (children_valid N s n r a ts valid))

    as_many_all : (ss : List Sym) (parent : Option ℕ) (f : ℕ) (ts : PlainTrees) → AreValid N ss ts → length (nodes_of_all N ss parent f ts) ≡ size_all ts
    as_many_all ss parent f PlainTrees.none valid = refl
    as_many_all [] parent f (PlainTrees.next t ts) valid = absurd (no_slots N t ts valid)
    as_many_all (s ∷ ss) parent f (PlainTrees.next t ts) valid =
        let both = slot_valid N s ss t ts valid in
        omega (
          arith,
          length-append (nodes_of N s parent f t) (nodes_of_all N ss parent (f + weight t) ts),
          as_many s parent f t both.0,
          as_many_all ss parent (f + weight t) ts both.1,
        )

  -- What the node with the number q is in a tree that is in the slot s.
  pub record IsNodeIn (s : Sym) (t : PlainTree) (q : ℕ) (x : Node) : Type 0 where
    pub tree : PlainTree
    pub tree_is : subtree q t ≡ Some tree
    pub sym : x.sym ≡ symbol_of tree
    pub slot : slot_at N s q t ≡ Some x.slot
    pub children : x.children ≡ count (children_of tree)
    pub tokens : HasTokensFrom x.first tree
    pub end : x.end ≡ x.first + weight tree

  pub record IsNodeAmong (ss : List Sym) (ts : PlainTrees) (q : ℕ) (x : Node) : Type 0 where
    pub tree : PlainTree
    pub tree_is : subtree_among q ts ≡ Some tree
    pub sym : x.sym ≡ symbol_of tree
    pub slot : slot_among N ss q ts ≡ Some x.slot
    pub children : x.children ≡ count (children_of tree)
    pub tokens : HasTokensFrom x.first tree
    pub end : x.end ≡ x.first + weight tree

  same_node : (s : Sym) (t : PlainTree) (q : ℕ) (x y : Node) → Some x ≡ Some y → IsNodeIn s t q x → IsNodeIn s t q y
  same_node s t q x y e is = let P : Node → Type 0 = λ z. IsNodeIn s t q z in subst P (same_Some x y e) is

  mutual
    pub is_node : (s : Sym) (parent : Option ℕ) (f n : ℕ) (t : PlainTree) → IsValid N s t → renumbered n t ≡ t → HasTokensFrom f t → (k q : ℕ) (x : Node)
        → q ≡ n + k →
        slice_get (nodes_of N s parent f t) k ≡ Some x → IsNodeIn s t q x
    is_node s parent f n (PlainTree.leaf m l i) valid numbered tokens zero q x at e =
        let same : n ≡ m = cc in
        let same_number : nat_eq m q ≡ true = eq-eqb m q (omega (arith, same, at)) in
        same_node s (PlainTree.leaf m l i) q (record { sym = Kind l; slot = s; alt = 0; children = 0; parent = parent; first = f; end = f + 1 }) x e (record {
          tree = PlainTree.leaf m l i;
          tree_is = cond-true (nat_eq m q) (Some (PlainTree.leaf m l i)) None same_number;
          sym = refl;
          slot = cond-true (nat_eq m q) (Some s) None same_number;
          children = refl;
          tokens = tokens;
          end = refl;
        })
    is_node s parent f n (PlainTree.leaf m l i) valid numbered tokens (suc k) q x at e = absurd (none-some x e)
    is_node s parent f n (PlainTree.node m r a ts) valid numbered tokens zero q x at e =
        let same : n ≡ m = cc in
        let same_number : nat_eq m q ≡ true = eq-eqb m q (omega (arith, same, at)) in
        same_node s (PlainTree.node m r a ts) q (record
        { sym = Rule r; slot = s; alt = a; children = count ts; parent = parent; first = f; end = f + weight (PlainTree.node m r a ts) }) x e (record {
          tree = PlainTree.node m r a ts;
          tree_is = cond-true (nat_eq m q) (Some (PlainTree.node m r a ts)) (subtree_among q ts) same_number;
          sym = refl;
          slot = cond-true (nat_eq m q) (Some s) (slot_among N (slots_of N r a ts) q ts) same_number;
          children = refl;
          tokens = tokens;
          end = refl;
        })
    is_node s parent f n (PlainTree.node m r a ts) valid numbered tokens (suc k) q x at e =
        let same : n ≡ m = cc in
        let later : renumbered_all (n + 1) ts ≡ ts = cc in
        let other : nat_eq m q ≡ false = ne_eqb m q (omega (arith, same, at)) in
        let it = among_nodes (slots_of N r a ts) (Some m) f (n + 1) ts (children_valid N s m r a ts valid) later tokens k q x (omega (arith, at)) e in
        record {
          tree = it.tree;
          tree_is = cond-false (nat_eq m q) (Some (PlainTree.node m r a ts)) (subtree_among q ts) other ∙ it.tree_is;
          sym = it.sym;
          slot = cond-false (nat_eq m q) (Some s) (slot_among N (slots_of N r a ts) q ts) other ∙ it.slot;
          children = it.children;
          tokens = it.tokens;
          end = it.end;
        }

    among_nodes : (ss : List Sym) (parent : Option ℕ) (f n : ℕ) (ts : PlainTrees) → AreValid N ss ts → renumbered_all n ts ≡ ts → HaveTokensFrom f ts
        → (k q : ℕ) (x : Node) → q ≡ n + k →
        slice_get (nodes_of_all N ss parent f ts) k ≡ Some x → IsNodeAmong ss ts q x
    among_nodes ss parent f n PlainTrees.none valid numbered tokens k q x at e = absurd (none-some x e)
    among_nodes [] parent f n (PlainTrees.next t ts) valid numbered tokens k q x at e = absurd (no_slots N t ts valid)
    among_nodes (s ∷ ss) parent f n (PlainTrees.next t ts) valid numbered tokens k q x at e =
        let both = slot_valid N s ss t ts valid in
        let first : renumbered n t ≡ t = cc in
        let later : renumbered_all (n + size t) ts ≡ ts = cc in
        elim (get_append (nodes_of N s parent f t) (nodes_of_all N ss parent (f + weight t) ts) k x e) [
          | inl one ↦
              let it = is_node s parent f n t both.0 first tokens.0 k q x at one in
              record {
                tree = it.tree;
                tree_is = ap (λ o. option_or o (subtree_among q ts)) it.tree_is;
                sym = it.sym;
                slot = ap (λ o. option_or o (slot_among N ss q ts)) it.slot;
                children = it.children;
                tokens = it.tokens;
                end = it.end;
              }
          | inr more ↦
              let long = as_many s parent f t both.0 in
              let is : k ≡ length (nodes_of N s parent f t) + more.0 = more.1 in
              let it = among_nodes ss parent (f + weight t) (n + size t) ts both.1 later tokens.1 more.0 q x (omega (arith, at, is, long)) more.2 in
              let lack = outside n (n + size t) q t (numbered_within n t first) (inr (omega (arith, at, is, long))) in
              record {
                tree = it.tree;
                tree_is = ap (λ o. option_or o (subtree_among q ts)) (lacks_subtree q t lack) ∙ it.tree_is;
                sym = it.sym;
                slot = ap (λ o. option_or o (slot_among N ss q ts)) (lacks_slot N s q t lack) ∙ it.slot;
                children = it.children;
                tokens = it.tokens;
                end = it.end;
              }
        ]

pub subtrees : NodesAreSubtrees
subtrees tree is q x e =
    let all : nodes_of tree.form tree.start None 0 (whole tree) ≡ tree.nodes = sym is.are in
    let it =
    is_node tree.form tree.start None 0 0 (whole tree) is.whole.valid is.whole.numbered is.whole.tokens q q x (omega arith) (ap (λ l. slice_get l q) all ∙ e) in
    (it.tree, record { subtree_is = it.tree_is; sym = it.sym; slot = it.slot; children = it.children; tokens = it.tokens; end = it.end })

pub have_nodes : SubtreesHaveNodes
have_nodes tree is q u e =
    let long : length tree.nodes ≡ size (whole tree) = ap length is.are ∙ as_many tree.form tree.start None 0 (whole tree) is.whole.valid in
    let within : q < size (whole tree) =
    omega (arith, (found 0 (0 + size (whole tree)) q (whole tree) u (numbered_within 0 (whole tree) is.whole.numbered) e).below) in
    elim (slice_get_cases tree.nodes q).1 [
      | inl (x, inside, at, same) ↦
          let it = subtrees tree is q x at in
          let one : it.0 ≡ u = same_Some it.0 u (sym it.1.subtree_is ∙ e) in
          let P : PlainTree → Type 0 = λ v. IsNodeOf tree q x v in
          (x, at, subst P one it.1)
      | inr (past, none) ↦ absurd (omega (arith, long, within, past))
    ]

pub whole_rise : WholeTreesRise
whole_rise N s t is = rise_from 0 (0 + size t) t (numbered_within 0 t is.numbered)
