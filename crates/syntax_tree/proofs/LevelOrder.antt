-- What is below a tree, level by level.
use Rattle.std.proofs.Common.{◌≡◌, inl, inr, ℕ, zero, suc, ◌+◌, ◌<◌, ◌≤◌, List, [], ◌∷◌, Contains, flat_map, refl, sym, subst, arith}
use Rattle.std.specs.List.{range_with_len}
use Rattle.std.proofs.lemmas.Bool.{cases_eq}
use Rattle.std.proofs.lemmas.List.Elements.{Contains-append_cases, Contains-append_left, Contains-append_right}
use Rattle.syntax_tree.specs.Trees.{PlainTree, PlainTrees, IsBelow, IsIn, IsInSome, below, in_first, in_later, itself}
use Rattle.syntax_tree.specs.Levels.{at_depth, at_depth_all, depth, height}
use Rattle.syntax_tree.specs.NodeLaws.{LevelsAreBelow}

contains_none : (u : PlainTree) → Contains [] u → ⊥
contains_none u (k, within, e) = let no : k < 0 = within in omega (arith, no)

contains_one : (t u : PlainTree) → Contains (t ∷ []) u → t ≡ u
contains_one t u (zero, within, e) = e
contains_one t u (suc k, within, e) = absurd (let no : suc k < 1 = within in omega (arith, no))

is_one : (t : PlainTree) → Contains (t ∷ []) t
is_one t = (zero, omega arith, refl)

module _ (f : ℕ → List PlainTree) (u : PlainTree) where
  some_of : (a n : ℕ) → Contains (flat_map f (range_with_len a n)) u → (d : ℕ) × Contains (f d) u
  some_of a zero c = absurd (contains_none u c)
  some_of a (suc n) c = elim (Contains-append_cases (f a) (flat_map f (range_with_len (a + 1) n)) u c) [
    | inl first ↦ (a, first)
    | inr later ↦ some_of (a + 1) n later
  ]

  one_of : (a n d : ℕ) → a ≤ d → d < a + n → Contains (f d) u → Contains (flat_map f (range_with_len a n)) u
  one_of a zero d low high c = absurd (omega (arith, low, high))
  one_of a (suc n) d low high c = elim (cases_eq a d) [
    | inl same ↦ let P : ℕ → Type 0 = λ k. Contains (f k) u in Contains-append_left (f a) (flat_map f (range_with_len (a + 1) n)) u (subst P (sym same) c)
    | inr other ↦ Contains-append_right (f a) (flat_map f (range_with_len (a + 1) n)) u (one_of (a + 1) n d (omega (arith, low, other)) (omega (arith, high)) c)
  ]

mutual
  at_depth_in : (d : ℕ) (t u : PlainTree) → Contains (at_depth d t) u → IsIn u t
  at_depth_in zero t u c = let P : PlainTree → Type 0 = λ v. IsIn v t in subst P (contains_one t u c) (itself t)
  at_depth_in (suc d) (PlainTree.leaf n k i) u c = absurd (contains_none u c)
  at_depth_in (suc d) (PlainTree.node n r a ts) u c = below u n r a ts (at_depth_in_some d ts u c)

  at_depth_in_some : (d : ℕ) (ts : PlainTrees) (u : PlainTree) → Contains (at_depth_all d ts) u → IsInSome u ts
  at_depth_in_some d PlainTrees.none u c = absurd (contains_none u c)
  at_depth_in_some d (PlainTrees.next t ts) u c = elim (Contains-append_cases (at_depth d t) (at_depth_all d ts) u c) [
    | inl first ↦ in_first u t ts (at_depth_in d t u first)
    | inr later ↦ in_later u t ts (at_depth_in_some d ts u later)
  ]

mutual
  in_at_depth : (t u : PlainTree) → IsIn u t → (d : ℕ) × (d ≤ depth t) × Contains (at_depth d t) u
  in_at_depth t u (itself t') = (zero, omega arith, is_one u)
  in_at_depth t u (below u' n r a ts i) = let it = some_at_depth ts u i in (suc it.0, it.1, it.2)

  some_at_depth : (ts : PlainTrees) (u : PlainTree) → IsInSome u ts → (d : ℕ) × (d < height ts) × Contains (at_depth_all d ts) u
  some_at_depth ts u (in_first u' t ts' i) =
      let it = in_at_depth t u i in
      let low : it.0 ≤ depth t = it.1 in
      (it.0, omega (arith, low), Contains-append_left (at_depth it.0 t) (at_depth_all it.0 ts') u it.2)
  some_at_depth ts u (in_later u' t ts' i) =
      let it = some_at_depth ts' u i in
      let low : it.0 < height ts' = it.1 in
      (it.0, omega (arith, low), Contains-append_right (at_depth it.0 t) (at_depth_all it.0 ts') u it.2)

level_below : (t u : PlainTree) (d : ℕ) → Contains (at_depth (suc d) t) u → IsBelow u t
level_below (PlainTree.leaf n k i) u d c = absurd (contains_none u c)
level_below (PlainTree.node n r a ts) u d c = at_depth_in_some d ts u c

below_level : (t u : PlainTree) → IsBelow u t → (d : ℕ) × (d < depth t) × Contains (at_depth (suc d) t) u
below_level (PlainTree.leaf n k i) u i' = elim i' [ ]
below_level (PlainTree.node n r a ts) u i = some_at_depth ts u i

pub levels : LevelsAreBelow
levels t u = (
  λ c. let it = some_of (λ d. at_depth (suc d) t) u 0 (depth t) c in level_below t u it.0 it.1,
  λ i. let it = below_level t u i in let high : it.0 < depth t =
      it.1 in one_of (λ d. at_depth (suc d) t) u 0 (depth t) it.0 (omega arith) (omega (arith, high)) it.2,
)
