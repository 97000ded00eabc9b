-- What is left at a node, and the leaves before and after it.
use Rattle.std.proofs.Common.{◌≡◌, inl, inr, ℕ, ◌+◌, ◌<◌, ◌≤◌, false, List, [], ◌∷◌, ◌++◌, Some, None, nat_eq}
use Rattle.std.proofs.Common.{sym, ap, ◌∙◌, subst, arith, append_assoc, append-nil}
use Rattle.std.specs.Prelude.{⊤}
use Rattle.std.specs.Option.{option_or}
use Rattle.std.proofs.lemmas.Bool.{cases_Bool, cond-false, cond-true, ne_eqb}
use Rattle.std.proofs.lemmas.Option.{same_Some, none-some}
use Rattle.syntax_tree.specs.Trees.{PlainTree, PlainTrees, HasTokensFrom, HaveTokensFrom, leaves, of_leaves_all, weight, weight_all}
use Rattle.syntax_tree.specs.Numbered.{subtree, subtree_among, with_subtree, with_subtree_among}
use Rattle.syntax_tree.specs.Left.{IsRemainderOf, AreRemaindersOf, IsRemainderOfSome, IsSublist, leaf_left, node_left, below_left}
use Rattle.syntax_tree.specs.Left.{none_left, kept, left_out, of_first, of_later, of_nothing, with_first, without_first}
use Rattle.syntax_tree.specs.LeftLaws.{NodesAreLeft}
use Rattle.syntax_tree.proofs.Within.{AllLack, AreWithin, IsWithin, Lacks, all_outside, found, found_among, lack_with}
use Rattle.syntax_tree.proofs.Within.{lacks_subtree, lacks_with, or_some, outside, within_from}
use Rattle.syntax_tree.proofs.LeftTrees.{leaves_part}

-- The numbers are at least `low` and less than `high`.
abbrev pub IsBounded : ℕ → ℕ → List ℕ → Type 0
IsBounded low high [] = ⊤
IsBounded low high (x ∷ xs) = (low ≤ x) × (x < high) × IsBounded low high xs

bounded_append : (low high : ℕ) (xs ys : List ℕ) → IsBounded low high xs → IsBounded low high ys → IsBounded low high (xs ++ ys)
bounded_append low high [] ys a b = b
bounded_append low high (x ∷ xs) ys a b = (a.0, a.1, bounded_append low high xs ys a.2 b)

bounded_wider : (low high low' high' : ℕ) (xs : List ℕ) → low' ≤ low → high ≤ high' → IsBounded low high xs → IsBounded low' high' xs
bounded_wider low high low' high' [] l h a = tt
bounded_wider low high low' high' (x ∷ xs) l h a = (omega (arith, l, a.0), omega (arith, h, a.1), bounded_wider low high low' high' xs l h a.2)

bounded_part : (low high : ℕ) (xs ys : List ℕ) → IsSublist xs ys → IsBounded low high ys → IsBounded low high xs
bounded_part low high xs ys of_nothing b = tt
bounded_part low high xs ys (with_first x xs' ys' d) b = (b.0, b.1, bounded_part low high xs' ys' d b.2)
bounded_part low high xs ys (without_first y xs' ys' d) b = bounded_part low high xs ys' d b.2

mutual
  tokens_bounded : (f : ℕ) (t : PlainTree) → HasTokensFrom f t → IsBounded f (f + weight t) (leaves t)
  tokens_bounded f (PlainTree.leaf n k i) e = (omega (arith, e), omega (arith, e), tt)
  tokens_bounded f (PlainTree.node n r a ts) e = all_tokens_bounded f ts e

  all_tokens_bounded : (f : ℕ) (ts : PlainTrees) → HaveTokensFrom f ts → IsBounded f (f + weight_all ts) (of_leaves_all (λ k i. i) ts)
  all_tokens_bounded f PlainTrees.none e = tt
  all_tokens_bounded f (PlainTrees.next t ts) e =
      bounded_append f (f + (weight t + weight_all ts)) (leaves t) (of_leaves_all (λ k i. i) ts)
      (bounded_wider f (f + weight t) f (f + (weight t + weight_all ts)) (leaves t) (omega arith) (omega arith) (tokens_bounded f t e.0))
      (bounded_wider (f + weight t) (f + weight t + weight_all ts) f (f + (weight t + weight_all ts)) (of_leaves_all (λ k i. i) ts) (omega arith) (omega arith)
      (all_tokens_bounded (f + weight t) ts e.1))

pub left_bounded : (f : ℕ) (t u : PlainTree) → HasTokensFrom f t → IsRemainderOf t u → IsBounded f (f + weight t) (leaves u)
left_bounded f t u e d = bounded_part f (f + weight t) (leaves u) (leaves t) (leaves_part (λ k i. i) t u d) (tokens_bounded f t e)

all_left_bounded : (f : ℕ) (ts us : PlainTrees) → HaveTokensFrom f ts → AreRemaindersOf ts us → IsBounded f (f + weight_all ts) (of_leaves_all (λ k i. i) us)
all_left_bounded f ts us e d = left_bounded f (PlainTree.node 0 0 0 ts) (PlainTree.node 0 0 0 us) e (node_left 0 0 0 ts us d)

mutual
  -- a number that a tree lacks is in nothing that is left of it
  pub left_lacks : (q : ℕ) (t u : PlainTree) → IsRemainderOf t u → Lacks q t → Lacks q u
  left_lacks q t u (leaf_left n k i) e = e
  left_lacks q t u (node_left n r a ts us d) e = (e.0, left_lack q ts us d e.1)
  left_lacks q t u (below_left n r a ts u' d) e = some_lacks q ts u d e.1

  pub left_lack : (q : ℕ) (ts us : PlainTrees) → AreRemaindersOf ts us → AllLack q ts → AllLack q us
  left_lack q ts us none_left e = tt
  left_lack q ts us (kept t u ts' us' d more) e = (left_lacks q t u d e.0, left_lack q ts' us' more e.1)
  left_lack q ts us (left_out t ts' us' more) e = left_lack q ts' us more e.1

  some_lacks : (q : ℕ) (ts : PlainTrees) (u : PlainTree) → IsRemainderOfSome ts u → AllLack q ts → Lacks q u
  some_lacks q ts u (of_first t ts' u' d) e = left_lacks q t u d e.0
  some_lacks q ts u (of_later t ts' u' d) e = some_lacks q ts' u d e.1

-- Of leaves whose tokens are at least f and less than `end`: those before and after what is left at a node,
-- which was the tree v and is the tree u; `with w` are the leaves with the tree w in its position.
pub record IsSplit (f end : ℕ) (ls : List ℕ) (with : PlainTree → List ℕ) (v u : PlainTree) : Type 0 where
  pub first : ℕ
  pub low : f ≤ first
  pub high : first + weight v ≤ end
  pub tokens : HasTokensFrom first v
  pub before : List ℕ
  pub after : List ℕ
  pub are : ls ≡ before ++ (leaves u ++ after)
  pub changed : (w : PlainTree) → with w ≡ before ++ (leaves w ++ after)
  pub is_before : IsBounded f first before
  pub is_after : IsBounded (first + weight v) end after

-- What is left at the node q of the tree t is the tree u.
pub record IsKept (q : ℕ) (t left u : PlainTree) : Type 0 where
  pub node : PlainTree
  pub node_is : subtree q t ≡ Some node
  pub is_left : IsRemainderOf node u
  pub split : (f : ℕ) → HasTokensFrom f t → IsSplit f (f + weight t) (leaves left) (λ w. leaves (with_subtree q w left)) node u

pub record IsKeptAmong (q : ℕ) (ts lefts : PlainTrees) (u : PlainTree) : Type 0 where
  pub node : PlainTree
  pub node_is : subtree_among q ts ≡ Some node
  pub is_left : IsRemainderOf node u
  pub split : (f : ℕ) → HaveTokensFrom f ts
      → IsSplit f (f + weight_all ts) (of_leaves_all (λ k i. i) lefts) (λ w. of_leaves_all (λ k i. i) (with_subtree_among q w lefts)) node u

pub record IsKeptSome (q : ℕ) (ts : PlainTrees) (left u : PlainTree) : Type 0 where
  pub node : PlainTree
  pub node_is : subtree_among q ts ≡ Some node
  pub is_left : IsRemainderOf node u
  pub split : (f : ℕ) → HaveTokensFrom f ts → IsSplit f (f + weight_all ts) (leaves left) (λ w. leaves (with_subtree q w left)) node u

-- the same leaves
same_split : (f end : ℕ) (ls : List ℕ) (with with' : PlainTree → List ℕ) (v u : PlainTree) → ((w : PlainTree) → with' w ≡ with w) → IsSplit f end ls with v u
    → IsSplit f end ls with' v u
same_split f end ls with with' v u e s = record {
  first = s.first;
  low = s.low;
  high = s.high;
  tokens = s.tokens;
  before = s.before;
  after = s.after;
  are = s.are;
  changed = λ w. e w ∙ s.changed w;
  is_before = s.is_before;
  is_after = s.is_after;
}

wider_split : (f end f' end' : ℕ) (ls : List ℕ) (with : PlainTree → List ℕ) (v u : PlainTree) → f' ≤ f → end ≤ end' → IsSplit f end ls with v u
    → IsSplit f' end' ls with v u
wider_split f end f' end' ls with v u l h s = record {
  first = s.first;
  low = omega (arith, s.low, l);
  high = omega (arith, s.high, h);
  tokens = s.tokens;
  before = s.before;
  after = s.after;
  are = s.are;
  changed = s.changed;
  is_before = bounded_wider f s.first f' s.first s.before l (omega arith) s.is_before;
  is_after = bounded_wider (s.first + weight v) end (s.first + weight v) end' s.after (omega arith) h s.is_after;
}

-- with more leaves after them, and before them
split_then : (f end end' : ℕ) (ls more : List ℕ) (with : PlainTree → List ℕ) (v u : PlainTree) → end ≤ end' → IsBounded end end' more
    → IsSplit f end ls with v u → IsSplit f end' (ls ++ more) (λ w. with w ++ more) v u
split_then f end end' ls more with v u h b s = record {
  first = s.first;
  low = s.low;
  high = omega (arith, s.high, h);
  tokens = s.tokens;
  before = s.before;
  after = s.after ++ more;
  are = ap (λ l. l ++ more) s.are ∙ append_assoc s.before (leaves u ++ s.after) more ∙ ap (λ l. s.before ++ l) (append_assoc (leaves u) s.after more);
  changed =
      λ w. ap (λ l. l ++ more) (s.changed w) ∙ append_assoc s.before (leaves w ++ s.after) more
      ∙ ap (λ l. s.before ++ l) (append_assoc (leaves w) s.after more);
  is_before = s.is_before;
  is_after = bounded_append (s.first + weight v) end' s.after more
      (bounded_wider (s.first + weight v) end (s.first + weight v) end' s.after (omega arith) h s.is_after)
      (bounded_wider end end' (s.first + weight v) end' more s.high (omega arith) b);
}

then_split : (f f' end : ℕ) (ls more : List ℕ) (with : PlainTree → List ℕ) (v u : PlainTree) → f ≤ f' → IsBounded f f' more → IsSplit f' end ls with v u
    → IsSplit f end (more ++ ls) (λ w. more ++ with w) v u
then_split f f' end ls more with v u l b s = record {
  first = s.first;
  low = omega (arith, s.low, l);
  high = s.high;
  tokens = s.tokens;
  before = more ++ s.before;
  after = s.after;
  are = ap (λ l. more ++ l) s.are ∙ sym (append_assoc more s.before (leaves u ++ s.after));
  changed = λ w. ap (λ l. more ++ l) (s.changed w) ∙ sym (append_assoc more s.before (leaves w ++ s.after));
  is_before =
      bounded_append f s.first more s.before (bounded_wider f f' f s.first more (omega arith) s.low b)
      (bounded_wider f' s.first f s.first s.before l (omega arith) s.is_before);
  is_after = s.is_after;
}

-- what is left of the node itself
kept_itself : (q : ℕ) (t left u : PlainTree) → subtree q t ≡ Some t → ((w : PlainTree) → with_subtree q w left ≡ w) → IsRemainderOf t left → left ≡ u
    → IsKept q t left u
kept_itself q t left u is by d e =
    let P : PlainTree → Type 0 = λ y. IsKept q t left y in
    subst P e (record {
      node = t;
      node_is = is;
      is_left = d;
      split = λ f tokens. record {
        first = f;
        low = omega arith;
        high = omega arith;
        tokens = tokens;
        before = [];
        after = [];
        are = sym (append-nil (leaves left));
        changed = λ w. ap leaves (by w) ∙ sym (append-nil (leaves w));
        is_before = tt;
        is_after = tt;
      };
    })

mutual
  pub keeps : (low high q : ℕ) (t left u : PlainTree) → IsWithin low high t → IsRemainderOf t left → subtree q left ≡ Some u → IsKept q t left u
  keeps low high q t left u within (leaf_left n k i) e = elim (cases_Bool (nat_eq n q)) [
    | inl is ↦
        kept_itself q (PlainTree.leaf n k i) (PlainTree.leaf n k i) u (cond-true (nat_eq n q) (Some (PlainTree.leaf n k i)) None is)
        (λ w. cond-true (nat_eq n q) w (PlainTree.leaf n k i) is) (leaf_left n k i)
        (same_Some (PlainTree.leaf n k i) u (sym (cond-true (nat_eq n q) (Some (PlainTree.leaf n k i)) None is) ∙ e))
    | inr is ↦ absurd (none-some u (sym (cond-false (nat_eq n q) (Some (PlainTree.leaf n k i)) None is) ∙ e))
  ]
  keeps low high q t left u within (node_left n r a ts us d) e = elim (cases_Bool (nat_eq n q)) [
    | inl is ↦
        kept_itself q (PlainTree.node n r a ts) (PlainTree.node n r a us) u (cond-true (nat_eq n q) (Some (PlainTree.node n r a ts)) (subtree_among q ts) is)
        (λ w. cond-true (nat_eq n q) w (PlainTree.node n r a (with_subtree_among q w us)) is) (node_left n r a ts us d)
        (same_Some (PlainTree.node n r a us) u (sym (cond-true (nat_eq n q) (Some (PlainTree.node n r a us)) (subtree_among q us) is) ∙ e))
    | inr is ↦
        let it = keep (n + 1) high q ts us u within.1 d (sym (cond-false (nat_eq n q) (Some (PlainTree.node n r a us)) (subtree_among q us) is) ∙ e) in
        record {
          node = it.node;
          node_is = cond-false (nat_eq n q) (Some (PlainTree.node n r a ts)) (subtree_among q ts) is ∙ it.node_is;
          is_left = it.is_left;
          split =
              λ f tokens. same_split f (f + weight_all ts) (of_leaves_all (λ k i. i) us) (λ w. of_leaves_all (λ k i. i) (with_subtree_among q w us))
              (λ w. leaves (with_subtree q w (PlainTree.node n r a us))) it.node u
              (λ w. ap leaves (cond-false (nat_eq n q) w (PlainTree.node n r a (with_subtree_among q w us)) is)) (it.split f tokens);
        }
  ]
  keeps low high q t left u within (below_left n r a ts left' d) e =
      let it = keep_some (n + 1) high q ts left u within.1 d e in
      let other : nat_eq n q ≡ false = ne_eqb n q (omega (arith, (found_among (n + 1) high q ts it.node within.1 it.node_is).above)) in
      record {
        node = it.node;
        node_is = cond-false (nat_eq n q) (Some (PlainTree.node n r a ts)) (subtree_among q ts) other
            ∙ it.node_is;
        is_left = it.is_left;
        split = it.split;
      }

  keep : (low high q : ℕ) (ts lefts : PlainTrees) (u : PlainTree) → AreWithin low high ts → AreRemaindersOf ts lefts → subtree_among q lefts ≡ Some u
      → IsKeptAmong q ts lefts u
  keep low high q ts lefts u within none_left e = absurd (none-some u e)
  keep low high q ts lefts u within (kept t left ts' lefts' d more) e = elim (or_some (subtree q left) (subtree_among q lefts') u e) [
    | inl first ↦
        let it = keeps low within.0 q t left u within.1 d first in
        let lack = left_lack q ts' lefts' more (all_outside within.0 high q ts' within.2 (inl (found low within.0 q t it.node within.1 it.node_is).below)) in
        record {
          node = it.node;
          node_is = ap (λ o. option_or o (subtree_among q ts')) it.node_is;
          is_left = it.is_left;
          split =
              λ f tokens. same_split f (f + (weight t + weight_all ts')) (leaves left ++ of_leaves_all (λ k i. i) lefts')
              (λ w. leaves (with_subtree q w left) ++ of_leaves_all (λ k i. i) lefts')
              (λ w. of_leaves_all (λ k i. i) (with_subtree_among q w (PlainTrees.next left lefts'))) it.node u
              (λ w. ap (λ l. leaves (with_subtree q w left) ++ of_leaves_all (λ k i. i) l) (lack_with q w lefts' lack))
              (split_then f (f + weight t) (f + (weight t + weight_all ts')) (leaves left) (of_leaves_all (λ k i. i) lefts')
              (λ w. leaves (with_subtree q w left)) it.node u (omega arith)
              (bounded_wider (f + weight t) (f + weight t + weight_all ts') (f + weight t) (f + (weight t + weight_all ts')) (of_leaves_all (λ k i. i) lefts')
              (omega arith) (omega arith) (all_left_bounded (f + weight t) ts' lefts' tokens.1 more))
              (it.split f tokens.0));
        }
    | inr later ↦
        let it = keep within.0 high q ts' lefts' u within.2 more later.1 in
        let lack = outside low within.0 q t within.1 (inr (found_among within.0 high q ts' it.node within.2 it.node_is).above) in
        record {
          node = it.node;
          node_is = ap (λ o. option_or o (subtree_among q ts')) (lacks_subtree q t lack) ∙ it.node_is;
          is_left = it.is_left;
          split =
              λ f tokens. same_split f (f + (weight t + weight_all ts')) (leaves left ++ of_leaves_all (λ k i. i) lefts')
              (λ w. leaves left ++ of_leaves_all (λ k i. i) (with_subtree_among q w lefts'))
              (λ w. of_leaves_all (λ k i. i) (with_subtree_among q w (PlainTrees.next left lefts'))) it.node u
              (λ w. ap (λ l. leaves l ++ of_leaves_all (λ k i. i) (with_subtree_among q w lefts')) (lacks_with q w left (left_lacks q t left d lack)))
              (then_split f (f + weight t) (f + (weight t + weight_all ts')) (of_leaves_all (λ k i. i) lefts') (leaves left)
              (λ w. of_leaves_all (λ k i. i) (with_subtree_among q w lefts')) it.node u (omega arith) (left_bounded f t left tokens.0 d)
              (wider_split (f + weight t) (f + weight t + weight_all ts') (f + weight t) (f + (weight t + weight_all ts')) (of_leaves_all (λ k i. i) lefts')
              (λ w. of_leaves_all (λ k i. i) (with_subtree_among q w lefts')) it.node u (omega arith) (omega arith)
              (it.split (f + weight t) tokens.1)));
        }
  ]
  keep low high q ts lefts u within (left_out t ts' lefts' more) e =
      let it = keep within.0 high q ts' lefts u within.2 more e in
      let lack = outside low within.0 q t within.1 (inr (found_among within.0 high q ts' it.node within.2 it.node_is).above) in
      record {
        node = it.node;
        node_is = ap (λ o. option_or o (subtree_among q ts')) (lacks_subtree q t lack) ∙ it.node_is;
        is_left = it.is_left;
        split =
            λ f tokens. wider_split (f + weight t) (f + weight t + weight_all ts') f (f + (weight t + weight_all ts')) (of_leaves_all (λ k i. i) lefts)
            (λ w. of_leaves_all (λ k i. i) (with_subtree_among q w lefts)) it.node u
            (omega arith) (omega arith) (it.split (f + weight t) tokens.1);
      }

  keep_some : (low high q : ℕ) (ts : PlainTrees) (left u : PlainTree) → AreWithin low high ts → IsRemainderOfSome ts left → subtree q left ≡ Some u
      → IsKeptSome q ts left u
  keep_some low high q ts left u within (of_first t ts' left' d) e =
      let it = keeps low within.0 q t left u within.1 d e in
      record {
        node = it.node;
        node_is = ap (λ o. option_or o (subtree_among q ts')) it.node_is;
        is_left = it.is_left;
        split =
            λ f tokens. wider_split f (f + weight t) f (f + (weight t + weight_all ts')) (leaves left) (λ w. leaves (with_subtree q w left)) it.node u
            (omega arith) (omega arith) (it.split f tokens.0);
      }
  keep_some low high q ts left u within (of_later t ts' left' d) e =
      let it = keep_some within.0 high q ts' left u within.2 d e in
      let lack = outside low within.0 q t within.1 (inr (found_among within.0 high q ts' it.node within.2 it.node_is).above) in
      record {
        node = it.node;
        node_is = ap (λ o. option_or o (subtree_among q ts')) (lacks_subtree q t lack) ∙ it.node_is;
        is_left = it.is_left;
        split =
            λ f tokens. wider_split (f + weight t) (f + weight t + weight_all ts') f (f + (weight t + weight_all ts')) (leaves left)
            (λ w. leaves (with_subtree q w left)) it.node u (omega arith) (omega arith) (it.split (f + weight t) tokens.1);
      }

pub nodes_left : NodesAreLeft
nodes_left t u w q rise d e = let within = within_from t rise in let it = keeps 0 within.0 q t u w within.1 d e in (it.node, it.node_is, it.is_left)
