-- A round goes by its levels, and the bound on their number is never met.
use Rattle.std.proofs.Common.{◌≡◌, ℕ, zero, suc, ◌+◌, ◌-◌, ◌<◌, ◌≤◌, true, cond, List, length, refl, sym, ◌∙◌, arith}
use Rattle.std.proofs.lemmas.Bool.{cond-false, lt-leb}
use Rattle.normal_form.specs.Form.{NormalForm}
use Rattle.reduce_rounds.specs.Trials.{Trials, Done}
use Rattle.reduce_rounds.proofs.Lent.{same_by_keep_lists}
use Rattle.syntax_tree.specs.Trees.{PlainTree}
use Rattle.syntax_tree.specs.Levels.{depth}
use Rattle.hdd_levels.specs.Levels.{is_so_deep, kept_tree, level}
use Rattle.reduce_hdd.specs.Round.{level_tried, levels_from, levels_within}
use Rattle.reduce_hdd.specs.Laws.{GoesByLevels}
use Rattle.reduce_hdd.proofs.KeptDepth.{kept_no_deeper}

-- Levels are the same that go on in the same way.
pub same_level : (go go' : PlainTree → Trials PlainTree) (N : NormalForm) (d : ℕ) (t : PlainTree) → ((u : PlainTree) → depth u ≤ depth t → go u ≡ go' u)
    → level_tried go N d t ≡ level_tried go' N d t
same_level go go' N d t same =
    let nodes : List ℕ = level N d t in
    same_by_keep_lists (λ keep. kept_tree nodes keep t) (λ keep. kept_tree nodes keep t) (λ keep. go (kept_tree nodes keep t))
    (λ keep. go' (kept_tree nodes keep t)) (length nodes) true
    (λ keep some. refl) (λ keep rest. same (kept_tree nodes keep t) (kept_no_deeper nodes keep t))

module _ (N : NormalForm) where
  over : (d : ℕ) (t : PlainTree) (trials : Trials PlainTree) → depth t < d → cond (is_so_deep d t) trials Done ≡ Done
  over d t trials less = cond-false (is_so_deep d t) trials Done (lt-leb d (depth t) less)

  -- more levels than there are change nothing
  same_times : (m k d : ℕ) (t : PlainTree) → depth t < d + m → depth t < d + k → levels_within N m d t ≡ levels_within N k d t
  unfolding levels_within
  same_times zero zero d t few few' = refl
  same_times zero (suc k) d t few few' = sym (over d t (level_tried (λ u. levels_within N k (suc d) u) N d t) (omega (arith, few)))
  same_times (suc m) zero d t few few' = over d t (level_tried (λ u. levels_within N m (suc d) u) N d t) (omega (arith, few'))
  same_times (suc m) (suc k) d t few few' =
      let same =
      same_level (λ u. levels_within N m (suc d) u) (λ u. levels_within N k (suc d) u) N d t
      (λ u low. same_times m k (suc d) u (omega (arith, low, few)) (omega (arith, low, few'))) in
      λ i. cond (is_so_deep d t) (same i) Done

  within_next : (m d : ℕ) (t : PlainTree) → levels_within N (suc m) d t ≡ cond (is_so_deep d t) (level_tried (λ u. levels_within N m (suc d) u) N d t) Done
  unfolding levels_within
  within_next m d t = refl

pub goes_by_levels : GoesByLevels
goes_by_levels N d t =
    let same = same_level (λ u. levels_within N (depth t) (suc d) u) (λ u. levels_from N (suc d) u) N d t
    (λ u low. same_times N (depth t) (suc (depth u) - suc d) (suc d) u (omega (arith, low)) (omega arith)) in
    same_times N (suc (depth t) - d) (suc (depth t)) d t (omega arith) (omega arith)
    ∙ within_next N (depth t) d t
    ∙ (λ i. cond (is_so_deep d t) (same i) Done)
