-- What edits can leave of a tree.
use Rattle.std.proofs.Common.{◌≡◌, ◌⊎◌, inl, inr, ℕ, ◌+◌, ◌≤◌, Bool, true, false, List, [], ◌∷◌, ◌++◌, refl, sym, ap, ◌∙◌, subst, arith, append-nil}
use Rattle.std.specs.List.Sorted.{IsStrictlyIncreasing}
use Rattle.syntax_tree.specs.Trees.{PlainTree, PlainTrees, IsIn, IsInSome, below, in_first, in_later, of_leaves, of_leaves_all, weight, weight_all}
use Rattle.syntax_tree.specs.Numbered.{numbers, numbers_all}
use Rattle.syntax_tree.specs.Left.{IsRemainderOf, AreRemaindersOf, IsRemainderOfSome, IsSublist, leaf_left, node_left, below_left, none_left}
use Rattle.syntax_tree.specs.Left.{kept, left_out, of_first, of_later, of_nothing, with_first, without_first, selected_trees}
use Rattle.syntax_tree.specs.LeftLaws.{LeftIsPart, LeftIsReflexive, LeftIsTransitive}
use Rattle.syntax_tree.proofs.Within.{RisesFrom, increasing_rises, rises_increasing, rises_weaker}

mutual
  pub left_itself : (t : PlainTree) → IsRemainderOf t t
  left_itself (PlainTree.leaf n k i) = leaf_left n k i
  left_itself (PlainTree.node n r a ts) = node_left n r a ts ts (left_all ts)

  pub left_all : (ts : PlainTrees) → AreRemaindersOf ts ts
  left_all PlainTrees.none = none_left
  left_all (PlainTrees.next t ts) = kept t t ts ts (left_itself t) (left_all ts)

pub reflexive : LeftIsReflexive
reflexive t = left_itself t

node_in : (n r a : ℕ) (ts : PlainTrees) (u : PlainTree) → IsRemainderOf (PlainTree.node n r a ts) u
    → ((us : PlainTrees) × (u ≡ PlainTree.node n r a us) × AreRemaindersOf ts us) ⊎ IsRemainderOfSome ts u
node_in n r a ts u (node_left n' r' a' ts' us d) = inl (us, refl, d)
node_in n r a ts u (below_left n' r' a' ts' u' d) = inr d

next_in : (t : PlainTree) (ts us : PlainTrees) → AreRemaindersOf (PlainTrees.next t ts) us
    → ((u : PlainTree) × (vs : PlainTrees) × (us ≡ PlainTrees.next u vs) × IsRemainderOf t u × AreRemaindersOf ts vs) ⊎ AreRemaindersOf ts us
next_in t ts us (kept t' u ts' vs d e) = inl (u, vs, refl, d, e)
next_in t ts us (left_out t' ts' us' e) = inr e

some_in : (t : PlainTree) (ts : PlainTrees) (u : PlainTree) → IsRemainderOfSome (PlainTrees.next t ts) u → IsRemainderOf t u ⊎ IsRemainderOfSome ts u
some_in t ts u (of_first t' ts' u' d) = inl d
some_in t ts u (of_later t' ts' u' d) = inr d

left_same : (t u v : PlainTree) → u ≡ v → IsRemainderOf t v → IsRemainderOf t u
left_same t u v e d = let P : PlainTree → Type 0 = λ w. IsRemainderOf t w in subst P (sym e) d

all_same : (ts us vs : PlainTrees) → us ≡ vs → AreRemaindersOf ts vs → AreRemaindersOf ts us
all_same ts us vs e d = let P : PlainTrees → Type 0 = λ w. AreRemaindersOf ts w in subst P (sym e) d

mutual
  pub left_twice : (t u v : PlainTree) → IsRemainderOf t u → IsRemainderOf u v → IsRemainderOf t v
  left_twice t u v (leaf_left n k i) e = e
  left_twice t u v (node_left n r a ts us d) e = elim (node_in n r a us v e) [
    | inl it ↦ left_same (PlainTree.node n r a ts) v (PlainTree.node n r a it.0) it.1 (node_left n r a ts it.0 (left_all_twice ts us it.0 d it.2))
    | inr some ↦ below_left n r a ts v (some_of_all ts us v d some)
  ]
  left_twice t u v (below_left n r a ts u' d) e = below_left n r a ts v (some_twice ts u v d e)

  left_all_twice : (ts us vs : PlainTrees) → AreRemaindersOf ts us → AreRemaindersOf us vs → AreRemaindersOf ts vs
  left_all_twice ts us vs none_left e = e
  left_all_twice ts us vs (kept t u ts' us' d more) e = elim (next_in u us' vs e) [
    | inl it ↦ all_same (PlainTrees.next t ts') vs (PlainTrees.next it.0 it.1) it.2
        (kept t it.0 ts' it.1 (left_twice t u it.0 d it.3) (left_all_twice ts' us' it.1 more it.4))
    | inr out ↦ left_out t ts' vs (left_all_twice ts' us' vs more out)
  ]
  left_all_twice ts us vs (left_out t ts' us' more) e = left_out t ts' vs (left_all_twice ts' us vs more e)

  some_of_all : (ts us : PlainTrees) (v : PlainTree) → AreRemaindersOf ts us → IsRemainderOfSome us v → IsRemainderOfSome ts v
  some_of_all ts us v none_left e = e
  some_of_all ts us v (kept t u ts' us' d more) e = elim (some_in u us' v e) [
    | inl first ↦ of_first t ts' v (left_twice t u v d first)
    | inr later ↦ of_later t ts' v (some_of_all ts' us' v more later)
  ]
  some_of_all ts us v (left_out t ts' us' more) e = of_later t ts' v (some_of_all ts' us v more e)

  some_twice : (ts : PlainTrees) (u v : PlainTree) → IsRemainderOfSome ts u → IsRemainderOf u v → IsRemainderOfSome ts v
  some_twice ts u v (of_first t ts' u' d) e = of_first t ts' v (left_twice t u v d e)
  some_twice ts u v (of_later t ts' u' d) e = of_later t ts' v (some_twice ts' u v d e)

pub transitive : LeftIsTransitive
transitive t u v d e = left_twice t u v d e

-- lists without some of their elements
pub sublist_same : (xs : List ℕ) → IsSublist xs xs
sublist_same [] = of_nothing
sublist_same (x ∷ xs) = with_first x xs xs (sublist_same xs)

pub sublist_nothing : (xs : List ℕ) → IsSublist [] xs
sublist_nothing [] = of_nothing
sublist_nothing (x ∷ xs) = without_first x [] xs (sublist_nothing xs)

pub sublist_append : (xs ys us vs : List ℕ) → IsSublist xs ys → IsSublist us vs → IsSublist (xs ++ us) (ys ++ vs)
sublist_append xs ys us vs of_nothing e = e
sublist_append xs ys us vs (with_first x xs' ys' d) e = with_first x (xs' ++ us) (ys' ++ vs) (sublist_append xs' ys' us vs d e)
sublist_append xs ys us vs (without_first y xs' ys' d) e = without_first y (xs ++ us) (ys' ++ vs) (sublist_append xs ys' us vs d e)

pub sublist_before : (xs ys vs : List ℕ) → IsSublist xs vs → IsSublist xs (ys ++ vs)
sublist_before xs [] vs e = e
sublist_before xs (y ∷ ys) vs e = without_first y xs (ys ++ vs) (sublist_before xs ys vs e)

pub sublist_after : (xs ys vs : List ℕ) → IsSublist xs ys → IsSublist xs (ys ++ vs)
sublist_after xs ys vs e = let P : List ℕ → Type 0 = λ l. IsSublist l (ys ++ vs) in subst P (append-nil xs) (sublist_append xs ys [] vs e (sublist_nothing vs))

pub sublist_rises : (low : ℕ) (xs ys : List ℕ) → IsSublist xs ys → RisesFrom low ys → RisesFrom low xs
sublist_rises low xs ys of_nothing r = tt
sublist_rises low xs ys (with_first x xs' ys' d) r = (r.0, sublist_rises (x + 1) xs' ys' d r.1)
sublist_rises low xs ys (without_first y xs' ys' d) r = sublist_rises low xs ys' d (rises_weaker (y + 1) low ys' (omega (arith, r.0)) r.1)

pub sublist_increasing : (xs ys : List ℕ) → IsSublist xs ys → IsStrictlyIncreasing ys → IsStrictlyIncreasing xs
sublist_increasing xs ys d r = rises_increasing 0 xs (sublist_rises 0 xs ys d (increasing_rises 0 ys r (λ x zs e. omega arith)))

mutual
  pub numbers_part : (t u : PlainTree) → IsRemainderOf t u → IsSublist (numbers u) (numbers t)
  numbers_part t u (leaf_left n k i) = sublist_same (n ∷ [])
  numbers_part t u (node_left n r a ts us d) = with_first n (numbers_all us) (numbers_all ts) (numbers_part_all ts us d)
  numbers_part t u (below_left n r a ts u' d) = without_first n (numbers u) (numbers_all ts) (numbers_part_some ts u d)

  numbers_part_all : (ts us : PlainTrees) → AreRemaindersOf ts us → IsSublist (numbers_all us) (numbers_all ts)
  numbers_part_all ts us none_left = of_nothing
  numbers_part_all ts us (kept t u ts' us' d more) =
      sublist_append (numbers u) (numbers t) (numbers_all us') (numbers_all ts') (numbers_part t u d) (numbers_part_all ts' us' more)
  numbers_part_all ts us (left_out t ts' us' more) = sublist_before (numbers_all us) (numbers t) (numbers_all ts') (numbers_part_all ts' us more)

  numbers_part_some : (ts : PlainTrees) (u : PlainTree) → IsRemainderOfSome ts u → IsSublist (numbers u) (numbers_all ts)
  numbers_part_some ts u (of_first t ts' u' d) = sublist_after (numbers u) (numbers t) (numbers_all ts') (numbers_part t u d)
  numbers_part_some ts u (of_later t ts' u' d) = sublist_before (numbers u) (numbers t) (numbers_all ts') (numbers_part_some ts' u d)

module _ (f : ℕ → ℕ → ℕ) where
  mutual
    pub leaves_part : (t u : PlainTree) → IsRemainderOf t u → IsSublist (of_leaves f u) (of_leaves f t)
    leaves_part t u (leaf_left n k i) = sublist_same (f k i ∷ [])
    leaves_part t u (node_left n r a ts us d) = leaves_part_all ts us d
    leaves_part t u (below_left n r a ts u' d) = leaves_part_some ts u d

    leaves_part_all : (ts us : PlainTrees) → AreRemaindersOf ts us → IsSublist (of_leaves_all f us) (of_leaves_all f ts)
    leaves_part_all ts us none_left = of_nothing
    leaves_part_all ts us (kept t u ts' us' d more) =
        sublist_append (of_leaves f u) (of_leaves f t) (of_leaves_all f us') (of_leaves_all f ts') (leaves_part t u d) (leaves_part_all ts' us' more)
    leaves_part_all ts us (left_out t ts' us' more) = sublist_before (of_leaves_all f us) (of_leaves f t) (of_leaves_all f ts') (leaves_part_all ts' us more)

    leaves_part_some : (ts : PlainTrees) (u : PlainTree) → IsRemainderOfSome ts u → IsSublist (of_leaves f u) (of_leaves_all f ts)
    leaves_part_some ts u (of_first t ts' u' d) = sublist_after (of_leaves f u) (of_leaves f t) (of_leaves_all f ts') (leaves_part t u d)
    leaves_part_some ts u (of_later t ts' u' d) = sublist_before (of_leaves f u) (of_leaves f t) (of_leaves_all f ts') (leaves_part_some ts' u d)

  mutual
    -- a tree that weighs nothing has no leaves
    pub no_leaves : (t : PlainTree) → weight t ≡ 0 → of_leaves f t ≡ []
    no_leaves (PlainTree.leaf n k i) e = absurd (omega (arith, e))
    no_leaves (PlainTree.node n r a ts) e = no_leaves_all ts e

    no_leaves_all : (ts : PlainTrees) → weight_all ts ≡ 0 → of_leaves_all f ts ≡ []
    no_leaves_all PlainTrees.none e = refl
    no_leaves_all (PlainTrees.next t ts) e = ap (λ l. l ++ of_leaves_all f ts) (no_leaves t (omega (arith, e))) ∙ no_leaves_all ts (omega (arith, e))

mutual
  pub lighter : (t u : PlainTree) → IsRemainderOf t u → weight u ≤ weight t
  lighter t u (leaf_left n k i) = omega arith
  lighter t u (node_left n r a ts us d) = lighter_all ts us d
  lighter t u (below_left n r a ts u' d) = lighter_some ts u d

  lighter_all : (ts us : PlainTrees) → AreRemaindersOf ts us → weight_all us ≤ weight_all ts
  lighter_all ts us none_left = omega arith
  lighter_all ts us (kept t u ts' us' d more) = omega (arith, lighter t u d, lighter_all ts' us' more)
  lighter_all ts us (left_out t ts' us' more) = omega (arith, lighter_all ts' us more)

  lighter_some : (ts : PlainTrees) (u : PlainTree) → IsRemainderOfSome ts u → weight u ≤ weight_all ts
  lighter_some ts u (of_first t ts' u' d) = omega (arith, lighter t u d)
  lighter_some ts u (of_later t ts' u' d) = omega (arith, lighter_some ts' u d)

leaf_in_node : (n k i m r a : ℕ) (ts : PlainTrees) → IsIn (PlainTree.leaf n k i) (PlainTree.node m r a ts) → IsInSome (PlainTree.leaf n k i) ts
leaf_in_node n k i m r a ts (below u m' r' a' ts' d) = d

in_next : (u t : PlainTree) (ts : PlainTrees) → IsInSome u (PlainTrees.next t ts) → IsIn u t ⊎ IsInSome u ts
in_next u t ts (in_first u' t' ts' d) = inl d
in_next u t ts (in_later u' t' ts' d) = inr d

module _ (n k i : ℕ) where
  mutual
    pub same_leaves : (t u : PlainTree) → IsRemainderOf t u → IsIn (PlainTree.leaf n k i) u → IsIn (PlainTree.leaf n k i) t
    same_leaves t u (leaf_left m l j) e = e
    same_leaves t u (node_left m r a ts us d) e = below (PlainTree.leaf n k i) m r a ts (same_leaves_all ts us d (leaf_in_node n k i m r a us e))
    same_leaves t u (below_left m r a ts u' d) e = below (PlainTree.leaf n k i) m r a ts (same_leaves_some ts u d e)

    same_leaves_all : (ts us : PlainTrees) → AreRemaindersOf ts us → IsInSome (PlainTree.leaf n k i) us → IsInSome (PlainTree.leaf n k i) ts
    same_leaves_all ts us none_left e = e
    same_leaves_all ts us (kept t u ts' us' d more) e = elim (in_next (PlainTree.leaf n k i) u us' e) [
      | inl first ↦ in_first (PlainTree.leaf n k i) t ts' (same_leaves t u d first)
      | inr later ↦ in_later (PlainTree.leaf n k i) t ts' (same_leaves_all ts' us' more later)
    ]
    same_leaves_all ts us (left_out t ts' us' more) e = in_later (PlainTree.leaf n k i) t ts' (same_leaves_all ts' us more e)

    same_leaves_some : (ts : PlainTrees) (u : PlainTree) → IsRemainderOfSome ts u → IsIn (PlainTree.leaf n k i) u → IsInSome (PlainTree.leaf n k i) ts
    same_leaves_some ts u (of_first t ts' u' d) e = in_first (PlainTree.leaf n k i) t ts' (same_leaves t u d e)
    same_leaves_some ts u (of_later t ts' u' d) e = in_later (PlainTree.leaf n k i) t ts' (same_leaves_some ts' u d e)

pub part : LeftIsPart
part t u d = record {
  numbers_are = numbers_part t u d;
  numbers_rise = λ r. sublist_increasing (numbers u) (numbers t) (numbers_part t u d) r;
  leaves_are = leaves_part (λ k i. i) t u d;
  leaves_rise = λ r. sublist_increasing (of_leaves (λ k i. i) u) (of_leaves (λ k i. i) t) (leaves_part (λ k i. i) t u d) r;
  lighter = lighter t u d;
  same_leaves = λ n k i e. same_leaves n k i t u d e;
}

-- some of the trees are left of them
pub selected_left : (mask : List Bool) (ts : PlainTrees) → AreRemaindersOf ts (selected_trees mask ts)
selected_left [] PlainTrees.none = none_left
selected_left [] (PlainTrees.next t ts) = left_out t ts PlainTrees.none (selected_left [] ts)
selected_left (b ∷ mask) PlainTrees.none = none_left
selected_left (true ∷ mask) (PlainTrees.next t ts) = kept t t ts (selected_trees mask ts) (left_itself t) (selected_left mask ts)
selected_left (false ∷ mask) (PlainTrees.next t ts) = left_out t ts (selected_trees mask ts) (selected_left mask ts)
