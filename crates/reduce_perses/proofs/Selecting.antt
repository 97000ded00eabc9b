-- Some of the elements of a list.
use Rattle.std.proofs.Common.{◌≡◌, ℕ, suc, ◌+◌, ◌<◌, ◌≤◌, Bool, true, false, List, [], ◌∷◌, length, replicate, refl, ap, arith}
use Rattle.std.specs.Prelude.{slice_set}
use Rattle.std.proofs.lemmas.Bool.{false≢true}
use Rattle.normal_form.specs.declared.normal.Sym.{Sym}
use Rattle.normal_form.specs.Form.{NormalForm}
use Rattle.list_ddmin.specs.ListStep.{kept_count, kept_of}
use Rattle.list_ddmin.specs.Asked.{KeepsOnlyOf}
use Rattle.syntax_tree.specs.Trees.{PlainTree, PlainTrees, count, size_all, weight, weight_all}
use Rattle.syntax_tree.specs.Valid.{EachIsValid, IsValid, of_next}
use Rattle.syntax_tree.specs.Edits.{LeavesOut, first, later}
use Rattle.syntax_tree.specs.Left.{selected_trees}

pub selected_all : (ts : PlainTrees) → selected_trees (replicate (count ts) true) ts ≡ ts
selected_all PlainTrees.none = refl
selected_all (PlainTrees.next t ts) = ap (λ us. PlainTrees.next t us) (selected_all ts)

pub count_selected : (keep : List Bool) (ts : PlainTrees) → length keep ≡ count ts → count (selected_trees keep ts) ≡ kept_count keep
count_selected [] PlainTrees.none e = refl
count_selected [] (PlainTrees.next t ts) e = absurd (let no : 0 ≡ suc (count ts) = e in omega (arith, no))
count_selected (b ∷ keep) PlainTrees.none e = absurd (let no : suc (length keep) ≡ 0 = e in omega (arith, no))
count_selected (true ∷ keep) (PlainTrees.next t ts) e =
    let same : suc (length keep) ≡ suc (count ts) = e in
    let fewer : length keep ≡ count ts = omega (arith, same) in
    let it = count_selected keep ts fewer in
    omega (arith, it)
count_selected (false ∷ keep) (PlainTrees.next t ts) e =
    let same : suc (length keep) ≡ suc (count ts) = e in
    let fewer : length keep ≡ count ts = omega (arith, same) in
    let it = count_selected keep ts fewer in
    omega (arith, it)

pub size_selected : (keep : List Bool) (ts : PlainTrees) → size_all (selected_trees keep ts) ≤ size_all ts
size_selected [] ts = omega arith
size_selected (b ∷ keep) PlainTrees.none = omega arith
size_selected (true ∷ keep) (PlainTrees.next t ts) = let it = size_selected keep ts in omega (arith, it)
size_selected (false ∷ keep) (PlainTrees.next t ts) = let it = size_selected keep ts in omega (arith, it)

module _ (N : NormalForm) (x : Sym) (has_leaf : (t : PlainTree) → IsValid N x t → 0 < weight t) where
  each_first : (t : PlainTree) (ts : PlainTrees) → EachIsValid N x (PlainTrees.next t ts) → IsValid N x t × EachIsValid N x ts
  each_first t ts (of_next x' t' ts' one rest) = (one, rest)

  -- fewer elements have fewer leaves: each that is left out has at least one
  pub weight_fewer : (question keep : List Bool) (ts : PlainTrees) → length keep ≡ count ts → KeepsOnlyOf question keep → EachIsValid N x ts →
      weight_all (selected_trees question ts) + kept_count keep ≤ weight_all (selected_trees keep ts) + kept_count question
  weight_fewer [] [] ts e only each = omega arith
  weight_fewer [] (b ∷ keep) ts e only each = absurd only
  weight_fewer (q ∷ question) [] ts e only each = absurd only
  weight_fewer (q ∷ question) (b ∷ keep) PlainTrees.none e only each = absurd (let no : suc (length keep) ≡ 0 = e in omega (arith, no))
  weight_fewer (true ∷ question) (false ∷ keep) (PlainTrees.next t ts) e only each = absurd (false≢true (only.0 refl))
  weight_fewer (true ∷ question) (true ∷ keep) (PlainTrees.next t ts) e only each =
      let same : suc (length keep) ≡ suc (count ts) = e in
      let fewer : length keep ≡ count ts = omega (arith, same) in
      let it = weight_fewer question keep ts fewer only.1 (each_first t ts each).1 in
      omega (arith, it)
  weight_fewer (false ∷ question) (false ∷ keep) (PlainTrees.next t ts) e only each =
      let same : suc (length keep) ≡ suc (count ts) = e in
      let fewer : length keep ≡ count ts = omega (arith, same) in
      let it = weight_fewer question keep ts fewer only.1 (each_first t ts each).1 in
      omega (arith, it)
  weight_fewer (false ∷ question) (true ∷ keep) (PlainTrees.next t ts) e only each =
      let same : suc (length keep) ≡ suc (count ts) = e in
      let fewer : length keep ≡ count ts = omega (arith, same) in
      let it = weight_fewer question keep ts fewer only.1 (each_first t ts each).1 in
      let one = has_leaf t (each_first t ts each).0 in
      omega (arith, it, one)

-- a list without one of its trees is a selection
pub left_out_at : (ts us : PlainTrees) → LeavesOut ts us → (k : ℕ) × (k < count ts) × (selected_trees (slice_set (replicate (count ts) true) k false) ts ≡ us)
left_out_at ts us (first t ts') = (0, omega arith, selected_all ts')
left_out_at ts us (later t ts' us' d) =
    let it = left_out_at ts' us' d in
    let low : it.0 < count ts' = it.1 in
    (suc it.0, omega (arith, low), ap (λ ys. PlainTrees.next t ys) it.2)

pub left_out_count : (ts us : PlainTrees) → LeavesOut ts us → count ts ≡ suc (count us)
left_out_count ts us (first t ts') = refl
left_out_count ts us (later t ts' us' d) = ap suc (left_out_count ts' us' d)

selected_none : (mask : List Bool) → selected_trees mask PlainTrees.none ≡ PlainTrees.none
selected_none [] = refl
selected_none (b ∷ mask) = refl

-- a selection of a selection
pub selected_twice : (question keep : List Bool) (ts : PlainTrees) → KeepsOnlyOf question keep
    → selected_trees (kept_of keep question) (selected_trees keep ts) ≡ selected_trees question ts
selected_twice [] [] ts only = refl
selected_twice [] (b ∷ keep) ts only = absurd only
selected_twice (q ∷ question) [] ts only = absurd only
selected_twice (q ∷ question) (b ∷ keep) PlainTrees.none only = selected_none (kept_of (b ∷ keep) (q ∷ question))
selected_twice (true ∷ question) (true ∷ keep) (PlainTrees.next t ts) only = ap (λ us. PlainTrees.next t us) (selected_twice question keep ts only.1)
selected_twice (true ∷ question) (false ∷ keep) (PlainTrees.next t ts) only = absurd (false≢true (only.0 refl))
selected_twice (false ∷ question) (true ∷ keep) (PlainTrees.next t ts) only = selected_twice question keep ts only.1
selected_twice (false ∷ question) (false ∷ keep) (PlainTrees.next t ts) only = selected_twice question keep ts only.1
