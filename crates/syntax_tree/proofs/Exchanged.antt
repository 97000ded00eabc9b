-- Trees with another tree in the position of one of their nodes.
use Rattle.std.proofs.Common.{◌≡◌, inl, inr, ℕ, ◌+◌, List, [], ◌++◌, Some, None, nat_eq, sym, ap, ◌∙◌, subst, arith, append_assoc, append-nil}
use Rattle.std.specs.Option.{option_or}
use Rattle.std.proofs.lemmas.Bool.{cases_Bool, cases_lt, cond-false, cond-true}
use Rattle.std.proofs.lemmas.Option.{same_Some, none-some}
use Rattle.syntax_tree.specs.Trees.{PlainTree, PlainTrees, leaves, of_leaves_all, weight, weight_all}
use Rattle.syntax_tree.specs.Numbered.{subtree, subtree_among, with_subtree, with_subtree_among}
use Rattle.syntax_tree.specs.Left.{IsRemainderOf, AreRemaindersOf, node_left, kept}
use Rattle.syntax_tree.specs.EditLaws.{SubtreesAreLeft, SubtreesChange}
use Rattle.syntax_tree.proofs.Within.{AreWithin, IsWithin, all_outside, lack_subtree, lack_with, lacks_subtree, lacks_with, or_none, outside, within_from}
use Rattle.syntax_tree.proofs.LeftTrees.{left_all, left_itself}

mutual
  -- The second tree is the first one with w at the position of v.
  pub data IsExchanged (v w : PlainTree) : PlainTree → PlainTree → Type 0 where
    at_root : IsExchanged v w v w
    at_child : (n r a : ℕ) (ts us : PlainTrees) → AreExchanged v w ts us → IsExchanged v w (PlainTree.node n r a ts) (PlainTree.node n r a us)

  pub data AreExchanged (v w : PlainTree) : PlainTrees → PlainTrees → Type 0 where
    at_first : (t u : PlainTree) (ts : PlainTrees) → IsExchanged v w t u → AreExchanged v w (PlainTrees.next t ts) (PlainTrees.next u ts)
    at_later : (t : PlainTree) (ts us : PlainTrees) → AreExchanged v w ts us → AreExchanged v w (PlainTrees.next t ts) (PlainTrees.next t us)

module _ (v w : PlainTree) where
  root_by : (t u : PlainTree) → t ≡ v → u ≡ w → IsExchanged v w t u
  root_by t u e f =
      let P : PlainTree → Type 0 = λ y. IsExchanged v w y u in
      let Q : PlainTree → Type 0 = λ y. IsExchanged v w v y in
      subst P (sym e) (subst Q (sym f) at_root)

  exchanged_by : (t u y : PlainTree) → u ≡ y → IsExchanged v w t y → IsExchanged v w t u
  exchanged_by t u y e d = let P : PlainTree → Type 0 = λ z. IsExchanged v w t z in subst P (sym e) d

  all_exchanged_by : (ts us ys : PlainTrees) → us ≡ ys → AreExchanged v w ts ys → AreExchanged v w ts us
  all_exchanged_by ts us ys e d = let P : PlainTrees → Type 0 = λ z. AreExchanged v w ts z in subst P (sym e) d

  mutual
    -- where numbers rise, a tree changes at one node alone
    pub exchanged : (low high q : ℕ) (t : PlainTree) → IsWithin low high t → subtree q t ≡ Some v → IsExchanged v w t (with_subtree q w t)
    exchanged low high q (PlainTree.leaf n k i) within e = elim (cases_Bool (nat_eq n q)) [
      | inl is ↦ root_by (PlainTree.leaf n k i) (with_subtree q w (PlainTree.leaf n k i))
          (same_Some (PlainTree.leaf n k i) v (sym (cond-true (nat_eq n q) (Some (PlainTree.leaf n k i)) None is) ∙ e))
          (cond-true (nat_eq n q) w (PlainTree.leaf n k i) is)
      | inr is ↦ absurd (none-some v (sym (cond-false (nat_eq n q) (Some (PlainTree.leaf n k i)) None is) ∙ e))
    ]
    exchanged low high q (PlainTree.node n r a ts) within e = elim (cases_Bool (nat_eq n q)) [
      | inl is ↦ root_by (PlainTree.node n r a ts) (with_subtree q w (PlainTree.node n r a ts))
          (same_Some (PlainTree.node n r a ts) v (sym (cond-true (nat_eq n q) (Some (PlainTree.node n r a ts)) (subtree_among q ts) is) ∙ e))
          (cond-true (nat_eq n q) w (PlainTree.node n r a (with_subtree_among q w ts)) is)
      | inr is ↦
          exchanged_by (PlainTree.node n r a ts) (with_subtree q w (PlainTree.node n r a ts)) (PlainTree.node n r a (with_subtree_among q w ts))
          (cond-false (nat_eq n q) w (PlainTree.node n r a (with_subtree_among q w ts)) is)
          (at_child n r a ts (with_subtree_among q w ts)
          (exchanged_among (n + 1) high q ts within.1 (sym (cond-false (nat_eq n q) (Some (PlainTree.node n r a ts)) (subtree_among q ts) is) ∙ e)))
    ]

    exchanged_among : (low high q : ℕ) (ts : PlainTrees) → AreWithin low high ts → subtree_among q ts ≡ Some v → AreExchanged v w ts (with_subtree_among q w ts)
    exchanged_among low high q PlainTrees.none within e = absurd (none-some v e)
    exchanged_among low high q (PlainTrees.next t ts) within e = elim (cases_lt q within.0) [
      | inl before ↦
          let lack = all_outside within.0 high q ts within.2 (inl before) in
          let first : subtree q t ≡ Some v = sym (or_none (subtree q t)) ∙ sym (ap (λ o. option_or (subtree q t) o) (lack_subtree q ts lack)) ∙ e in
          all_exchanged_by (PlainTrees.next t ts) (with_subtree_among q w (PlainTrees.next t ts)) (PlainTrees.next (with_subtree q w t) ts)
          (ap (λ us. PlainTrees.next (with_subtree q w t) us) (lack_with q w ts lack))
          (at_first t (with_subtree q w t) ts (exchanged low within.0 q t within.1 first))
      | inr after ↦
          let lack = outside low within.0 q t within.1 (inr after) in
          let later : subtree_among q ts ≡ Some v = sym (ap (λ o. option_or o (subtree_among q ts)) (lacks_subtree q t lack)) ∙ e in
          all_exchanged_by (PlainTrees.next t ts) (with_subtree_among q w (PlainTrees.next t ts)) (PlainTrees.next t (with_subtree_among q w ts))
          (ap (λ u. PlainTrees.next u (with_subtree_among q w ts)) (lacks_with q w t lack))
          (at_later t ts (with_subtree_among q w ts) (exchanged_among within.0 high q ts within.2 later))
    ]

  mutual
    weights : (t u : PlainTree) → IsExchanged v w t u → weight u + weight v ≡ weight t + weight w
    weights t u at_root = omega arith
    weights t u (at_child n r a ts us d) = weights_all ts us d

    weights_all : (ts us : PlainTrees) → AreExchanged v w ts us → weight_all us + weight v ≡ weight_all ts + weight w
    weights_all ts us (at_first t u ts' d) = omega (arith, weights t u d)
    weights_all ts us (at_later t ts' us' d) = omega (arith, weights_all ts' us' d)

  -- Lists that differ in one part.
  abbrev Differ : List ℕ → List ℕ → List ℕ → List ℕ → Type 0
  Differ xs ys us vs = (before : List ℕ) × (after : List ℕ) × (us ≡ before ++ xs ++ after) × (vs ≡ before ++ ys ++ after)

  more_after : (xs ys us vs zs : List ℕ) → Differ xs ys us vs → Differ xs ys (us ++ zs) (vs ++ zs)
  more_after xs ys us vs zs (before, after, e, f) =
      (before, after ++ zs, ap (λ l. l ++ zs) e ∙ append_assoc (before ++ xs) after zs, ap (λ l. l ++ zs) f ∙ append_assoc (before ++ ys) after zs)

  more_before : (xs ys us vs zs : List ℕ) → Differ xs ys us vs → Differ xs ys (zs ++ us) (zs ++ vs)
  more_before xs ys us vs zs (before, after, e, f) = (
    zs ++ before,
    after,
    ap (λ l. zs ++ l) e ∙ sym (append_assoc zs (before ++ xs) after) ∙ ap (λ l. l ++ after) (sym (append_assoc zs before xs)),
    ap (λ l. zs ++ l) f ∙ sym (append_assoc zs (before ++ ys) after) ∙ ap (λ l. l ++ after) (sym (append_assoc zs before ys)),
  )

  mutual
    leaves_are : (t u : PlainTree) → IsExchanged v w t u → Differ (leaves v) (leaves w) (leaves t) (leaves u)
    leaves_are t u at_root = ([], [], sym (append-nil (leaves v)), sym (append-nil (leaves w)))
    leaves_are t u (at_child n r a ts us d) = leaves_are_all ts us d

    leaves_are_all : (ts us : PlainTrees) → AreExchanged v w ts us → Differ (leaves v) (leaves w) (of_leaves_all (λ k i. i) ts) (of_leaves_all (λ k i. i) us)
    leaves_are_all ts us (at_first t u ts' d) = more_after (leaves v) (leaves w) (leaves t) (leaves u) (of_leaves_all (λ k i. i) ts') (leaves_are t u d)
    leaves_are_all ts us (at_later t ts' us' d) =
        more_before (leaves v) (leaves w) (of_leaves_all (λ k i. i) ts') (of_leaves_all (λ k i. i) us') (leaves t) (leaves_are_all ts' us' d)

  module _ (left : IsRemainderOf v w) where
    mutual
      pub stays_left : (t u : PlainTree) → IsExchanged v w t u → IsRemainderOf t u
      stays_left t u at_root = left
      stays_left t u (at_child n r a ts us d) = node_left n r a ts us (stay_left ts us d)

      stay_left : (ts us : PlainTrees) → AreExchanged v w ts us → AreRemaindersOf ts us
      stay_left ts us (at_first t u ts' d) = kept t u ts' ts' (stays_left t u d) (left_all ts')
      stay_left ts us (at_later t ts' us' d) = kept t t ts' us' (left_itself t) (stay_left ts' us' d)

pub change : SubtreesChange
change t q v w rise e =
    let within = within_from t rise in
    let d = exchanged v w 0 within.0 q t within.1 e in
    record { weights = weights v w t (with_subtree q w t) d; leaves_are = leaves_are v w t (with_subtree q w t) d }

pub are_left : SubtreesAreLeft
are_left t q v w rise e left = let within = within_from t rise in stays_left v w left t (with_subtree q w t) (exchanged v w 0 within.0 q t within.1 e)
