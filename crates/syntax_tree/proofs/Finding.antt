-- Nodes are found by their numbers.
use Rattle.std.proofs.Common.{◌≡◌, ◌≢◌, inl, inr, ℕ, ◌+◌, Some, None, nat_eq, refl, sym, ap, ◌∙◌, subst, arith}
use Rattle.std.specs.Option.{option_or}
use Rattle.std.proofs.lemmas.Bool.{cases_Bool, cond-false, cond-true, ne_eqb}
use Rattle.std.proofs.lemmas.Option.{same_Some, none-some}
use Rattle.syntax_tree.specs.Trees.{PlainTree, PlainTrees, IsBelow, IsIn, IsInSome, below, in_first, in_later, itself}
use Rattle.syntax_tree.specs.Numbered.{number_of, subtree, subtree_among}
use Rattle.syntax_tree.specs.NodeLaws.{NumbersFindSubtrees}
use Rattle.syntax_tree.proofs.Within.{AreWithin, IsWithin, found, found_among, lacks_subtree, or_some, outside, within_from}
use Rattle.syntax_tree.proofs.InSlots.{root_found}

mutual
  -- what is in a tree that is in the tree is in it
  pub deeper : (low high q p : ℕ) (t u v : PlainTree) → IsWithin low high t → subtree q t ≡ Some u → subtree p u ≡ Some v → subtree p t ≡ Some v
  deeper low high q p (PlainTree.leaf n k i) u v w e f = elim (cases_Bool (nat_eq n q)) [
    | inl is ↦ ap (subtree p) (same_Some (PlainTree.leaf n k i) u (sym (cond-true (nat_eq n q) (Some (PlainTree.leaf n k i)) None is) ∙ e)) ∙ f
    | inr is ↦ absurd (none-some u (sym (cond-false (nat_eq n q) (Some (PlainTree.leaf n k i)) None is) ∙ e))
  ]
  deeper low high q p (PlainTree.node n r a ts) u v w e f = elim (cases_Bool (nat_eq n q)) [
    | inl is ↦ ap (subtree p) (same_Some (PlainTree.node n r a ts) u
        (sym (cond-true (nat_eq n q) (Some (PlainTree.node n r a ts)) (subtree_among q ts) is) ∙ e)) ∙ f
    | inr is ↦
        let it = deeper_among (n + 1) high q p ts u v w.1 (sym (cond-false (nat_eq n q) (Some (PlainTree.node n r a ts)) (subtree_among q ts) is) ∙ e) f in
        cond-false (nat_eq n p) (Some (PlainTree.node n r a ts)) (subtree_among p ts)
        (ne_eqb n p (omega (arith, (found_among (n + 1) high p ts v w.1 it).above))) ∙ it
  ]

  pub deeper_among : (low high q p : ℕ) (ts : PlainTrees) (u v : PlainTree) → AreWithin low high ts → subtree_among q ts ≡ Some u → subtree p u ≡ Some v
      → subtree_among p ts ≡ Some v
  deeper_among low high q p PlainTrees.none u v w e f = absurd (none-some u e)
  deeper_among low high q p (PlainTrees.next t ts) u v w e f = elim (or_some (subtree q t) (subtree_among q ts) u e) [
    | inl first ↦ ap (λ o. option_or o (subtree_among p ts)) (deeper low w.0 q p t u v w.1 first f)
    | inr later ↦
        let it = deeper_among w.0 high q p ts u v w.2 later.1 f in
        ap (λ o. option_or o (subtree_among p ts)) (lacks_subtree p t (outside low w.0 p t w.1 (inr (found_among w.0 high p ts v w.2 it).above))) ∙ it
  ]

mutual
  -- what is in the tree is found by its number
  pub is_found : (low high : ℕ) (t u : PlainTree) → IsWithin low high t → IsIn u t → subtree (number_of u) t ≡ Some u
  is_found low high t u w (itself t') = root_found u
  is_found low high t u w (below u' n r a ts d) =
      let it = some_found (n + 1) high ts u w.1 d in
      cond-false (nat_eq n (number_of u)) (Some (PlainTree.node n r a ts)) (subtree_among (number_of u) ts)
      (ne_eqb n (number_of u) (omega (arith, (found_among (n + 1) high (number_of u) ts u w.1 it).above))) ∙ it

  pub some_found : (low high : ℕ) (ts : PlainTrees) (u : PlainTree) → AreWithin low high ts → IsInSome u ts → subtree_among (number_of u) ts ≡ Some u
  some_found low high ts u w (in_first u' t ts' d) = ap (λ o. option_or o (subtree_among (number_of u) ts')) (is_found low w.0 t u w.1 d)
  some_found low high ts u w (in_later u' t ts' d) =
      let it = some_found w.0 high ts' u w.2 d in
      ap (λ o. option_or o (subtree_among (number_of u) ts'))
      (lacks_subtree (number_of u) t (outside low w.0 (number_of u) t w.1 (inr (found_among w.0 high (number_of u) ts' u w.2 it).above))) ∙ it

in_itself : (t u : PlainTree) → t ≡ u → IsIn u t
in_itself t u e = let P : PlainTree → Type 0 = λ v. IsIn v t in subst P e (itself t)

mutual
  -- what is found is in the tree
  pub is_in : (q : ℕ) (t u : PlainTree) → subtree q t ≡ Some u → IsIn u t
  is_in q (PlainTree.leaf n k i) u e = elim (cases_Bool (nat_eq n q)) [
    | inl is ↦ in_itself (PlainTree.leaf n k i) u (same_Some (PlainTree.leaf n k i) u (sym (cond-true (nat_eq n q) (Some (PlainTree.leaf n k i)) None is) ∙ e))
    | inr is ↦ absurd (none-some u (sym (cond-false (nat_eq n q) (Some (PlainTree.leaf n k i)) None is) ∙ e))
  ]
  is_in q (PlainTree.node n r a ts) u e = elim (cases_Bool (nat_eq n q)) [
    | inl is ↦ in_itself (PlainTree.node n r a ts) u
        (same_Some (PlainTree.node n r a ts) u (sym (cond-true (nat_eq n q) (Some (PlainTree.node n r a ts)) (subtree_among q ts) is) ∙ e))
    | inr is ↦ below u n r a ts (in_some q ts u (sym (cond-false (nat_eq n q) (Some (PlainTree.node n r a ts)) (subtree_among q ts) is) ∙ e))
  ]

  pub in_some : (q : ℕ) (ts : PlainTrees) (u : PlainTree) → subtree_among q ts ≡ Some u → IsInSome u ts
  in_some q PlainTrees.none u e = absurd (none-some u e)
  in_some q (PlainTrees.next t ts) u e = elim (or_some (subtree q t) (subtree_among q ts) u e) [
    | inl first ↦ in_first u t ts (is_in q t u first)
    | inr later ↦ in_later u t ts (in_some q ts u later.1)
  ]

in_below : (t u : PlainTree) → u ≢ t → IsIn u t → IsBelow u t
in_below t u differ (itself t') = absurd (differ refl)
in_below t u differ (below u' n r a ts d) = d

below_in : (t u : PlainTree) → IsBelow u t → IsIn u t
below_in (PlainTree.leaf n k i) u d = elim d [ ]
below_in (PlainTree.node n r a ts) u d = below u n r a ts d

pub find : NumbersFindSubtrees
find t rise =
    let within = within_from t rise in
    record {
      root = root_found t;
      number = λ q u e. (found 0 within.0 q t u within.1 e).number;
      deeper = λ q p u v e f. deeper 0 within.0 q p t u v within.1 e f;
      below = λ u d. is_found 0 within.0 t u within.1 (below_in t u d);
      found = λ q u e differ. in_below t u differ (is_in q t u e);
    }
