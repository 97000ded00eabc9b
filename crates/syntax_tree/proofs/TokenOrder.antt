-- Numbers and tokens rise together.
use Rattle.std.proofs.Common.{◌≡◌, inl, inr, ℕ, zero, suc, ◌+◌, ◌<◌, ◌≤◌, List, [], ◌∷◌, ◌++◌, Contains, Some, None, nat_eq, sym, ap, ◌∙◌, subst, arith}
use Rattle.std.proofs.lemmas.Bool.{cases_Bool, cond-false, cond-true, eqb-true}
use Rattle.std.proofs.lemmas.List.Elements.{Contains-append_left, Contains-append_right}
use Rattle.std.proofs.lemmas.Option.{same_Some, none-some}
use Rattle.syntax_tree.specs.Trees.{PlainTree, PlainTrees, leaves, of_leaves_all}
use Rattle.syntax_tree.specs.Numbered.{subtree, subtree_among}
use Rattle.syntax_tree.specs.NodeLaws.{NumbersFollowTokens}
use Rattle.syntax_tree.proofs.Within.{AreWithin, IsWithin, RisesFrom, found, found_among, increasing_rises, or_some, within_from}

-- In rising numbers those of a part are less than those of a later one.
module _ (i j : ℕ) where
  rises_above : (low : ℕ) (ys : List ℕ) → RisesFrom low ys → Contains ys j → low ≤ j
  rises_above low [] r (k, within, e) = absurd (let none : k < 0 = within in omega (arith, none))
  rises_above low (y ∷ ys) r (zero, within, e) = omega (arith, r.0, e)
  rises_above low (y ∷ ys) r (suc k, within, e) = omega (arith, r.0, rises_above (y + 1) ys r.1 (k, omega (arith, within), e))

  rises_apart : (low : ℕ) (xs ys : List ℕ) → RisesFrom low (xs ++ ys) → Contains xs i → Contains ys j → i < j
  rises_apart low [] ys r (k, within, e) c = absurd (let none : k < 0 = within in omega (arith, none))
  rises_apart low (x ∷ xs) ys r (zero, within, e) c = omega (arith, e, rises_above (x + 1) (xs ++ ys) r.1 (Contains-append_right xs ys j c))
  rises_apart low (x ∷ xs) ys r (suc k, within, e) c = rises_apart (x + 1) xs ys r.1 (k, omega (arith, within), e) c

  rises_later : (low : ℕ) (xs ys : List ℕ) → RisesFrom low (xs ++ ys) → (from : ℕ) × RisesFrom from ys
  rises_later low [] ys r = (low, r)
  rises_later low (x ∷ xs) ys r = rises_later (x + 1) xs ys r.1

  rises_first : (low : ℕ) (xs ys : List ℕ) → RisesFrom low (xs ++ ys) → RisesFrom low xs
  rises_first low [] ys r = tt
  rises_first low (x ∷ xs) ys r = (r.0, rises_first (x + 1) xs ys r.1)

  mutual
    -- a leaf of a tree that is in the tree is one of its leaves
    leaf_of : (l q : ℕ) (t u : PlainTree) → subtree q t ≡ Some u → Contains (leaves u) l → Contains (leaves t) l
    leaf_of l q (PlainTree.leaf n k m) u e c = elim (cases_Bool (nat_eq n q)) [
      | inl is ↦
          let P : PlainTree → Type 0 = λ y. Contains (leaves y) l in
          subst P (sym (same_Some (PlainTree.leaf n k m) u (sym (cond-true (nat_eq n q) (Some (PlainTree.leaf n k m)) None is) ∙ e))) c
      | inr is ↦ absurd (none-some u (sym (cond-false (nat_eq n q) (Some (PlainTree.leaf n k m)) None is) ∙ e))
    ]
    leaf_of l q (PlainTree.node n r a ts) u e c = elim (cases_Bool (nat_eq n q)) [
      | inl is ↦
          let P : PlainTree → Type 0 = λ y. Contains (leaves y) l in
          subst P (sym (same_Some (PlainTree.node n r a ts) u (sym (cond-true (nat_eq n q) (Some (PlainTree.node n r a ts)) (subtree_among q ts) is) ∙ e))) c
      | inr is ↦ leaf_among l q ts u (sym (cond-false (nat_eq n q) (Some (PlainTree.node n r a ts)) (subtree_among q ts) is) ∙ e) c
    ]

    leaf_among : (l q : ℕ) (ts : PlainTrees) (u : PlainTree) → subtree_among q ts ≡ Some u → Contains (leaves u) l → Contains (of_leaves_all (λ k i. i) ts) l
    leaf_among l q PlainTrees.none u e c = absurd (none-some u e)
    leaf_among l q (PlainTrees.next t ts) u e c = elim (or_some (subtree q t) (subtree_among q ts) u e) [
      | inl first ↦ Contains-append_left (leaves t) (of_leaves_all (λ k i. i) ts) l (leaf_of l q t u first c)
      | inr later ↦ Contains-append_right (leaves t) (of_leaves_all (λ k i. i) ts) l (leaf_among l q ts u later.1 c)
    ]

  module _ (p q : ℕ) (u v : PlainTree) (apart : subtree q u ≡ None) (less : p < q) (in_u : Contains (leaves u) i) (in_v : Contains (leaves v) j) where
    mutual
      follow : (low high from : ℕ) (t : PlainTree) → IsWithin low high t → RisesFrom from (leaves t) → subtree p t ≡ Some u → subtree q t ≡ Some v → i < j
      follow low high from (PlainTree.leaf n k m) w r e f =
          elim (cases_Bool (nat_eq n q)) [
            | inl is ↦ elim (cases_Bool (nat_eq n p)) [
              | inl both ↦ absurd (omega (arith, eqb-true n q is, eqb-true n p both, less))
              | inr not ↦ absurd (none-some u (sym (cond-false (nat_eq n p) (Some (PlainTree.leaf n k m)) None not) ∙ e))
            ]
            | inr is ↦ absurd (none-some v (sym (cond-false (nat_eq n q) (Some (PlainTree.leaf n k m)) None is) ∙ f))
          ]
      follow low high from (PlainTree.node n r' a ts) w r e f = elim (cases_Bool (nat_eq n p)) [
        | inl is ↦
            let same : PlainTree.node n r' a ts ≡ u =
            same_Some (PlainTree.node n r' a ts) u (sym (cond-true (nat_eq n p) (Some (PlainTree.node n r' a ts)) (subtree_among p ts) is) ∙ e) in
            absurd (none-some v (sym apart ∙ ap (subtree q) (sym same) ∙ f))
        | inr is ↦
            let e' : subtree_among p ts ≡ Some u = sym (cond-false (nat_eq n p) (Some (PlainTree.node n r' a ts)) (subtree_among p ts) is) ∙ e in
            elim (cases_Bool (nat_eq n q)) [
              | inl first ↦ absurd (omega (arith, (found_among (n + 1) high p ts u w.1 e').above, eqb-true n q first, less))
              | inr later ↦ follow_among (n + 1) high from ts w.1 r e'
                  (sym (cond-false (nat_eq n q) (Some (PlainTree.node n r' a ts)) (subtree_among q ts) later) ∙ f)
            ]
      ]

      follow_among : (low high from : ℕ) (ts : PlainTrees) → AreWithin low high ts → RisesFrom from (of_leaves_all (λ k i. i) ts) → subtree_among p ts ≡ Some u
          → subtree_among q ts ≡ Some v → i < j
      follow_among low high from PlainTrees.none w r e f = absurd (none-some u e)
      follow_among low high from (PlainTrees.next t ts) w r e f = elim (or_some (subtree p t) (subtree_among p ts) u e) [
        | inl first ↦ elim (or_some (subtree q t) (subtree_among q ts) v f) [
          | inl both ↦ follow low w.0 from t w.1 (rises_first from (leaves t) (of_leaves_all (λ k i. i) ts) r) first both
          | inr later ↦ rises_apart from (leaves t) (of_leaves_all (λ k i. i) ts) r (leaf_of i p t u first in_u) (leaf_among j q ts v later.1 in_v)
        ]
        | inr later ↦ elim (or_some (subtree q t) (subtree_among q ts) v f) [
          | inl first ↦ absurd (omega (arith, (found_among w.0 high p ts u w.2 later.1).above, (found low w.0 q t v w.1 first).below, less))
          | inr both ↦ let more = rises_later from (leaves t) (of_leaves_all (λ k i. i) ts) r in follow_among w.0 high more.0 ts w.2 more.1 later.1 both.1
        ]
      ]

pub tokens_follow : NumbersFollowTokens
tokens_follow t u v p q i j rise rising e f apart less in_u in_v =
    let within = within_from t rise in
    follow i j p q u v apart less in_u in_v 0 within.0 0 t within.1 (increasing_rises 0 (leaves t) rising (λ x ys same. omega arith)) e f
