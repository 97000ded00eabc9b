-- The kinds of leaves that are left.
use Rattle.std.proofs.Common.{◌≡◌, ℕ, zero, suc, ◌+◌, List, [], ◌∷◌, ◌++◌, Some, slice_get, length, filter_map, refl, sym, ap, ◌∙◌, arith, length-append}
use Rattle.std.specs.Prelude.{⊤}
use Rattle.std.specs.List.{cons_option}
use Rattle.std.proofs.lemmas.List.Elements.{filter_map-append}
use Rattle.std.proofs.lemmas.Option.{none-some}
use Rattle.syntax_tree.specs.Trees.{PlainTree, PlainTrees, HasTokensFrom, HaveTokensFrom, kinds_of, leaves, of_leaves_all, weight, weight_all}
use Rattle.syntax_tree.specs.inner.Trees.{kinds_of_all}
use Rattle.syntax_tree.specs.Left.{IsRemainderOf, AreRemaindersOf, IsRemainderOfSome, leaf_left, node_left}
use Rattle.syntax_tree.specs.Left.{below_left, none_left, kept, left_out, of_first, of_later}
use Rattle.syntax_tree.specs.LeftLaws.{LeavesKeepKinds}

-- From the position f on the kinds are these.
abbrev Agree : List ℕ → ℕ → List ℕ → Type 0
Agree kinds f ks = (j k : ℕ) → slice_get ks j ≡ Some k → slice_get kinds (f + j) ≡ Some k

get_first : (xs ys : List ℕ) (j k : ℕ) → slice_get xs j ≡ Some k → slice_get (xs ++ ys) j ≡ Some k
get_first [] ys j k e = absurd (none-some k e)
get_first (x ∷ xs) ys zero k e = e
get_first (x ∷ xs) ys (suc j) k e = get_first xs ys j k e

get_later : (xs ys : List ℕ) (j i k : ℕ) → i ≡ length xs + j → slice_get ys j ≡ Some k → slice_get (xs ++ ys) i ≡ Some k
get_later [] ys j i k at e = let same : i ≡ j = omega (arith, at) in ap (slice_get ys) same ∙ e
get_later (x ∷ xs) ys j zero k at e = absurd (omega (arith, at))
get_later (x ∷ xs) ys j (suc i) k at e = get_later xs ys j i k (omega (arith, at)) e

mutual
  as_heavy : (t : PlainTree) → length (kinds_of t) ≡ weight t
  as_heavy (PlainTree.leaf n k i) = refl
  as_heavy (PlainTree.node n r a ts) = all_as_heavy ts

  all_as_heavy : (ts : PlainTrees) → length (kinds_of_all ts) ≡ weight_all ts
  all_as_heavy PlainTrees.none = refl
  all_as_heavy (PlainTrees.next t ts) = omega (arith, length-append (kinds_of t) (kinds_of_all ts), as_heavy t, all_as_heavy ts)

module _ (kinds : List ℕ) where
  abbrev mutual
    -- Each leaf has the kind of its token.
    HasKinds : PlainTree → Type 0
    HasKinds (PlainTree.leaf n k i) = slice_get kinds i ≡ Some k
    HasKinds (PlainTree.node n r a ts) = HaveKinds ts

    HaveKinds : PlainTrees → Type 0
    HaveKinds PlainTrees.none = ⊤
    HaveKinds (PlainTrees.next t ts) = HasKinds t × HaveKinds ts

  mutual
    has_kinds : (f : ℕ) (t : PlainTree) → HasTokensFrom f t → Agree kinds f (kinds_of t) → HasKinds t
    has_kinds f (PlainTree.leaf n k i) e agree = let at : i ≡ f + 0 = omega (arith, e) in ap (slice_get kinds) at ∙ agree 0 k refl
    has_kinds f (PlainTree.node n r a ts) e agree = have_kinds f ts e agree

    have_kinds : (f : ℕ) (ts : PlainTrees) → HaveTokensFrom f ts → Agree kinds f (kinds_of_all ts) → HaveKinds ts
    have_kinds f PlainTrees.none e agree = tt
    have_kinds f (PlainTrees.next t ts) e agree = (
      has_kinds f t e.0 (λ j k at. agree j k (get_first (kinds_of t) (kinds_of_all ts) j k at)),
      have_kinds (f + weight t) ts e.1 (λ j k at.
          let same : f + weight t + j ≡ f + (length (kinds_of t) + j) = omega (arith, as_heavy t) in
          ap (slice_get kinds) same ∙ agree (length (kinds_of t) + j) k (get_later (kinds_of t) (kinds_of_all ts) j (length (kinds_of t) + j) k refl at)),
    )

  mutual
    keeps_kinds : (t u : PlainTree) → IsRemainderOf t u → HasKinds t → HasKinds u
    keeps_kinds t u (leaf_left n k i) has = has
    keeps_kinds t u (node_left n r a ts us d) has = keep_kinds ts us d has
    keeps_kinds t u (below_left n r a ts u' d) has = some_kinds ts u d has

    keep_kinds : (ts us : PlainTrees) → AreRemaindersOf ts us → HaveKinds ts → HaveKinds us
    keep_kinds ts us none_left has = tt
    keep_kinds ts us (kept t u ts' us' d more) has = (keeps_kinds t u d has.0, keep_kinds ts' us' more has.1)
    keep_kinds ts us (left_out t ts' us' more) has = keep_kinds ts' us more has.1

    some_kinds : (ts : PlainTrees) (u : PlainTree) → IsRemainderOfSome ts u → HaveKinds ts → HasKinds u
    some_kinds ts u (of_first t ts' u' d) has = keeps_kinds t u d has.0
    some_kinds ts u (of_later t ts' u' d) has = some_kinds ts' u d has.1

  mutual
    kinds_are : (t : PlainTree) → HasKinds t → kinds_of t ≡ filter_map (λ i. slice_get kinds i) (leaves t)
    kinds_are (PlainTree.leaf n k i) has = ap (λ o. cons_option o []) (sym has)
    kinds_are (PlainTree.node n r a ts) has = all_kinds_are ts has

    all_kinds_are : (ts : PlainTrees) → HaveKinds ts → kinds_of_all ts ≡ filter_map (λ i. slice_get kinds i) (of_leaves_all (λ k i. i) ts)
    all_kinds_are PlainTrees.none has = refl
    all_kinds_are (PlainTrees.next t ts) has =
        ap (λ l. l ++ kinds_of_all ts) (kinds_are t has.0) ∙ ap (λ l. filter_map (λ i. slice_get kinds i) (leaves t) ++ l) (all_kinds_are ts has.1)
        ∙ sym (filter_map-append (λ i. slice_get kinds i) (leaves t) (of_leaves_all (λ k i. i) ts))

pub kept_kinds : LeavesKeepKinds
kept_kinds t u e d =
    let agree : Agree (kinds_of t) 0 (kinds_of t) = λ j k at. (let same : 0 + j ≡ j = omega arith in ap (slice_get (kinds_of t)) same ∙ at) in
    kinds_are (kinds_of t) u (keeps_kinds (kinds_of t) t u d (has_kinds (kinds_of t) 0 t e agree))
