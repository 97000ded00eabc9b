-- The leaves of trees that are left of the tree of all tokens.
use Rattle.std.proofs.Common.{◌≡◌, ℕ, zero, suc, ◌+◌, ◌<◌, List, [], ◌∷◌, ◌++◌, Option, Some, None, length, map, slice_get, refl, ap, ◌∙◌, arith}
use Rattle.std.specs.List.{All, cons_option, filter_map, range_with_len}
use Rattle.std.specs.List.Sorted.{IsStrictlyIncreasing}
use Rattle.std.specs.Option.{option_map}
use Rattle.std.proofs.lemmas.List.{length-append}
use Rattle.std.proofs.lemmas.List.FromFn.{get_or-range_with_len, length-range_with_len}
use Rattle.std.proofs.lemmas.Option.{slice_get-map}
use Rattle.syntax_tree.specs.Trees.{PlainTree, PlainTrees, HasTokensFrom, HaveTokensFrom, leaves, of_leaves, of_leaves_all, weight, weight_all}
use Rattle.syntax_tree.specs.Left.{IsSublist, of_nothing, with_first, without_first}

-- there are as many leaves as the weight says
mutual
  pub leaves_length : (f : ℕ → ℕ → ℕ) (t : PlainTree) → length (of_leaves f t) ≡ weight t
  leaves_length f (PlainTree.leaf n k i) = refl
  leaves_length f (PlainTree.node n r a ts) = leaves_length_all f ts

  leaves_length_all : (f : ℕ → ℕ → ℕ) (ts : PlainTrees) → length (of_leaves_all f ts) ≡ weight_all ts
  leaves_length_all f PlainTrees.none = refl
  leaves_length_all f (PlainTrees.next t ts) =
      let both = length-append (of_leaves f t) (of_leaves_all f ts) in
      let one = leaves_length f t in
      let rest = leaves_length_all f ts in
      omega (arith, both, one, rest)

range_both : (a m n : ℕ) → range_with_len a m ++ range_with_len (a + m) n ≡ range_with_len a (m + n)
range_both a zero n = ap (λ (b : ℕ). range_with_len b n) (let e : a + 0 ≡ a = omega arith in e) ∙ ap (range_with_len a) (let e : n ≡ 0 + n = omega arith in e)
range_both a (suc m) n =
    ap (λ (b : ℕ). a ∷ (range_with_len (a + 1) m ++ range_with_len b n)) (let e : a + suc m ≡ (a + 1) + m = omega arith in e)
    ∙ ap (λ (l : List ℕ). a ∷ l) (range_both (a + 1) m n)
    ∙ ap (range_with_len a) (let e : suc (m + n) ≡ suc m + n = omega arith in e)

-- the leaves of a tree of tokens that follow one another
mutual
  pub leaves_from : (f : ℕ) (t : PlainTree) → HasTokensFrom f t → leaves t ≡ range_with_len f (weight t)
  leaves_from f (PlainTree.leaf n k i) e = ap (λ (x : ℕ). x ∷ []) e
  leaves_from f (PlainTree.node n r a ts) e = leaves_from_all f ts e

  leaves_from_all : (f : ℕ) (ts : PlainTrees) → HaveTokensFrom f ts → of_leaves_all (λ k i. i) ts ≡ range_with_len f (weight_all ts)
  leaves_from_all f PlainTrees.none e = refl
  leaves_from_all f (PlainTrees.next t ts) e =
      ap (λ (l : List ℕ). l ++ of_leaves_all (λ k i. i) ts) (leaves_from f t e.0)
      ∙ ap (λ (l : List ℕ). range_with_len f (weight t) ++ l) (leaves_from_all (f + weight t) ts e.1)
      ∙ range_both f (weight t) (weight_all ts)

below_first : (bound x : ℕ) (xs : List ℕ) → x < bound → All (λ i. i < bound) xs → All (λ i. i < bound) (x ∷ xs)
below_first bound x xs first rest zero d lt = first
below_first bound x xs first rest (suc k) d lt = rest k d (omega (arith, lt))

below_rest : (bound y : ℕ) (ys : List ℕ) → All (λ i. i < bound) (y ∷ ys) → All (λ i. i < bound) ys
below_rest bound y ys all k d lt = all (suc k) d (omega (arith, lt))

-- What is so of each element of a list is so of each of a list without some of them.
pub sublist_below : (bound : ℕ) (xs ys : List ℕ) → IsSublist xs ys → All (λ i. i < bound) ys → All (λ i. i < bound) xs
sublist_below bound xs ys of_nothing all = all
sublist_below bound xs ys (with_first x us vs sub) all =
    below_first bound x us (all 0 0 (omega arith)) (sublist_below bound us vs sub (below_rest bound x vs all))
sublist_below bound xs ys (without_first y us vs sub) all = sublist_below bound us vs sub (below_rest bound y vs all)

pub range_below : (n : ℕ) → All (λ i. i < n) (range_with_len 0 n)
range_below n k d lt =
    let long = length-range_with_len 0 n in
    let at = get_or-range_with_len 0 n k d (omega (arith, lt, long)) in
    omega (arith, at, lt, long)

pub range_rises : (a n : ℕ) → IsStrictlyIncreasing (range_with_len a n)
range_rises a n k lt =
    let long = length-range_with_len a n in
    let one = get_or-range_with_len a n k 0 (omega (arith, lt, long)) in
    let next = get_or-range_with_len a n (k + 1) 0 (omega (arith, lt, long)) in
    omega (arith, one, next)

-- what is mapped at some indices
pub mapped_at : {A B : Type 0} (f : A → B) (xs : List A) (is : List ℕ) → filter_map (λ i. slice_get (map f xs) i) is ≡ map f (filter_map (slice_get xs) is)
mapped_at {A = A} {B = B} f xs [] = refl
mapped_at {A = A} {B = B} f xs (i ∷ is) =
    ap (λ (o : Option B). cons_option o (filter_map (λ j. slice_get (map f xs) j) is)) (slice_get-map f xs i)
    ∙ ap (λ (l : List B). cons_option (option_map f (slice_get xs i)) l) (mapped_at f xs is)
    ∙ mapped_first (slice_get xs i) (filter_map (slice_get xs) is)
  where
    mapped_first : (o : Option A) (l : List A) → cons_option (option_map f o) (map f l) ≡ map f (cons_option o l)
    mapped_first None l = refl
    mapped_first (Some x) l = refl
