-- What a round tries, level after level.
use Rattle.std.proofs.Common.{◌≡◌, inl, inr, ℕ, zero, suc, ◌+◌, ◌-◌, ◌<◌, ◌≤◌, Bool, true, false, cond, List, length, refl, sym, ap, ◌∙◌, subst, arith}
use Rattle.std.proofs.lemmas.Bool.{cases_eq, cond-true, false≢true, le-leb}
use Rattle.normal_form.specs.declared.normal.Sym.{Sym}
use Rattle.normal_form.specs.Form.{NormalForm}
use Rattle.list_ddmin.specs.ListStep.{Outcome, list_step}
use Rattle.reduce_rounds.specs.Trials.{Trials, Done, AllTried, EachIsSmaller, IsTriedAtNo}
use Rattle.reduce_rounds.specs.StateTexts.{StateTexts}
use Rattle.reduce_rounds.specs.Reduction.{end_at}
use Rattle.reduce_rounds.specs.ByTrials.{trials_end}
use Rattle.reduce_rounds.specs.ListEnd.{after_texts, keep_verdict}
use Rattle.reduce_rounds.proofs.Lent.{becomes_smaller, ends_as_list_step}
use Rattle.reduce_rounds.proofs.Lent as lists
use Rattle.syntax_tree.specs.Trees.{PlainTree, weight}
use Rattle.syntax_tree.specs.Numbered.{NumbersRise}
use Rattle.syntax_tree.specs.Valid.{IsTreeFor}
use Rattle.syntax_tree.specs.Left.{IsRemainderOf}
use Rattle.syntax_tree.specs.LeftLaws.{LeftIsPart, LeftIsTransitive}
use Rattle.syntax_tree.specs.Levels.{depth}
use Rattle.hdd_levels.specs.Levels.{fills_pluses, is_so_deep, kept_tree, level}
use Rattle.hdd_levels.specs.Laws.{KeepingAllKeepsTree, KeptTreesAreLeft, KeptTreesAreTrees, SingleDeletionsAreOfLevels, ValidTreesFillPluses, all_but}
use Rattle.reduce_hdd.specs.Allowed.{allowed_trials}
use Rattle.reduce_hdd.specs.Round.{level_tried, levels_within}
use Rattle.reduce_hdd.specs.Followed.{level_followed, levels_followed, with_allowed}
use Rattle.reduce_hdd.specs.Laws.{EndsByLevels, FewerNodesAreLighter, LosesLeaves, TriesKeptTrees, TriesSingleDeletions}
use Rattle.reduce_hdd.proofs.AllowedTrials.{allowed_end, allowed_selections, allowed_smaller, allowed_tried}

-- Only trees for the slot that are left of the whole tree are tried.
module _ (all : KeepingAllKeepsTree) (valid : ValidTreesFillPluses) (left : KeptTreesAreLeft) (trees : KeptTreesAreTrees) (both : LeftIsTransitive)
    (part : LeftIsPart) (N : NormalForm) (s : Sym) (whole : PlainTree) where
  abbrev IsKept : PlainTree → Type 0
  IsKept u = IsTreeFor N s u × IsRemainderOf whole u

  within_kept : (times d : ℕ) (t : PlainTree) → NumbersRise t → IsKept t → AllTried IsKept (allowed_trials (fills_pluses N) (levels_within N times d t))
  unfolding levels_within
  within_kept zero d t rise kept = tt
  within_kept (suc times) d t rise kept =
      let nodes : List ℕ = level N d t in
      let goes : (keep : List Bool) → fills_pluses N (kept_tree nodes keep t) ≡ true → IsKept (kept_tree nodes keep t) = λ keep may.
      (trees N s t d keep kept.0 rise may, both whole t (kept_tree nodes keep t) kept.1 (left nodes keep t)) in
      by_deep (is_so_deep d t)
      (allowed_selections (fills_pluses N) IsKept (λ keep. kept_tree nodes keep t) (λ keep. levels_within N times (suc d) (kept_tree nodes keep t))
      (length nodes) true
      (λ keep some may. goes keep may)
      (λ keep rest may. within_kept times (suc d) (kept_tree nodes keep t) ((part t (kept_tree nodes keep t) (left nodes keep t)).numbers_rise rise)
      (goes keep may))
      (ap (fills_pluses N) (all nodes t) ∙ valid N s t kept.0.valid))
    where
      by_deep : (b : Bool) → AllTried IsKept (allowed_trials (fills_pluses N) (level_tried (λ u. levels_within N times (suc d) u) N d t)) →
          AllTried IsKept (allowed_trials (fills_pluses N) (cond b (level_tried (λ u. levels_within N times (suc d) u) N d t) Done))
      by_deep true tried = tried
      by_deep false tried = tt

pub tries_kept : KeepingAllKeepsTree → ValidTreesFillPluses → KeptTreesAreLeft → KeptTreesAreTrees → LeftIsTransitive → LeftIsPart → TriesKeptTrees
tries_kept all valid left trees both part N s whole t rise tree is_left =
    within_kept all valid left trees both part N s whole (suc (depth t) - 0) 0 t ((part whole t is_left).numbers_rise rise) (tree, is_left)

-- Each yes makes the tree smaller.
module _ (all : KeepingAllKeepsTree) (left : KeptTreesAreLeft) (part : LeftIsPart) (lighter : FewerNodesAreLighter) (N : NormalForm) where
  within_smaller : (times d : ℕ) (t : PlainTree) → NumbersRise t → EachIsSmaller weight (weight t) (levels_within N times d t)
  unfolding levels_within
  within_smaller zero d t rise = tt
  within_smaller (suc times) d t rise =
      let nodes : List ℕ = level N d t in
      by_deep (is_so_deep d t)
      (subst (λ (u : PlainTree). EachIsSmaller weight (weight u) (level_tried (λ w. levels_within N times (suc d) w) N d t)) (all nodes t)
      (becomes_smaller weight (λ keep. kept_tree nodes keep t) (λ keep. levels_within N times (suc d) (kept_tree nodes keep t)) (length nodes) true
      (λ fewer keep long less. lighter N d t fewer keep rise long less)
      (λ keep rest. within_smaller times (suc d) (kept_tree nodes keep t) ((part t (kept_tree nodes keep t) (left nodes keep t)).numbers_rise rise))))
    where
      by_deep : (b : Bool) → EachIsSmaller weight (weight t) (level_tried (λ u. levels_within N times (suc d) u) N d t) →
          EachIsSmaller weight (weight t) (cond b (level_tried (λ u. levels_within N times (suc d) u) N d t) Done)
      by_deep true smaller = smaller
      by_deep false smaller = tt

pub loses_leaves : KeepingAllKeepsTree → KeptTreesAreLeft → LeftIsPart → FewerNodesAreLighter → LosesLeaves
loses_leaves all left part lighter N t rise =
    allowed_smaller (fills_pluses N) weight (weight t) _ (within_smaller all left part lighter N (suc (depth t) - 0) 0 t rise)

-- Each single deletion is tried at no.
module _ (all : KeepingAllKeepsTree) (N : NormalForm) (t u : PlainTree) (d k : ℕ) (deep : d ≤ depth t) (low : k < length (level N d t))
    (same : u ≡ kept_tree (level N d t) (all_but (length (level N d t)) k) t) where
  here_tried : (go : PlainTree → Trials PlainTree) → IsTriedAtNo (level_tried go N d t) u
  here_tried go =
      let nodes : List ℕ = level N d t in
      subst (λ (w : PlainTree). IsTriedAtNo (level_tried go N d t) w) (sym same)
      ((lists.tries_deletions (λ keep. kept_tree nodes keep t) (λ keep. go (kept_tree nodes keep t)) (length nodes) true).0 k low
      (λ no. absurd (false≢true (sym no))))

  later_tried : (go : PlainTree → Trials PlainTree) (e : ℕ) → IsTriedAtNo (go t) u → IsTriedAtNo (level_tried go N e t) u
  later_tried go e tried =
      let nodes : List ℕ = level N e t in
      (lists.tries_deletions (λ keep. kept_tree nodes keep t) (λ keep. go (kept_tree nodes keep t)) (length nodes) true).1 u
      (subst (λ (w : PlainTree). IsTriedAtNo (go w) u) (sym (all nodes t)) tried)

  within_tried : (times e : ℕ) → e ≤ d → d < e + times → IsTriedAtNo (levels_within N times e t) u
  unfolding levels_within
  within_tried zero e up few = absurd (omega (arith, up, few))
  within_tried (suc times) e up few =
      subst (λ trials. IsTriedAtNo trials u) (sym
      (cond-true (is_so_deep e t) (level_tried (λ w. levels_within N times (suc e) w) N e t) Done (le-leb e (depth t) (omega (arith, up, deep)))))
      (elim (cases_eq e d) [
        | inl is ↦ subst (λ (f : ℕ). IsTriedAtNo (level_tried (λ w. levels_within N times (suc e) w) N f t) u) (sym is)
            (here_tried (λ w. levels_within N times (suc e) w))
        | inr other ↦ later_tried (λ w. levels_within N times (suc e) w) e (within_tried times (suc e) (below e d up other) (omega (arith, few)))
      ])
    where
      below : (m n : ℕ) → m ≤ n → (m ≡ n → ⊥) → suc m ≤ n
      below m n le other = omega (arith, le, other)

pub tries_single : KeepingAllKeepsTree → SingleDeletionsAreOfLevels → TriesSingleDeletions
tries_single all single N s t u tree rise deletion =
    let it = (single N s t u tree rise).0 deletion in
    let deep : it.0 ≤ depth t = it.2 in
    allowed_tried (fills_pluses N) _ u it.5 (within_tried all N t u it.0 it.1 deep it.3 it.4 (suc (depth t) - 0) 0 (omega arith) (omega (arith, deep)))

-- A round comes to what its levels come to.
module _ (all : KeepingAllKeepsTree) (N : NormalForm) (texts : StateTexts PlainTree) (verdict : List ℕ → Bool) where
  within_end : (times d : ℕ) (t : PlainTree) → trials_end texts verdict t (levels_within N times d t) ≡ levels_followed texts verdict N times d t
  unfolding levels_within levels_followed
  within_end zero d t = refl
  within_end (suc times) d t =
      let nodes : List ℕ = level N d t in
      let state_of : List Bool → PlainTree = λ keep. kept_tree nodes keep t in
      let outcome : Outcome = list_step (λ keep. keep_verdict texts verdict state_of keep) (length nodes) true in
      by_deep (is_so_deep d t)
      (subst (λ (u : PlainTree). trials_end texts verdict u (level_tried (λ w. levels_within N times (suc d) w) N d t) ≡ level_followed texts verdict
      (λ w. levels_followed texts verdict N times (suc d) w) N d t) (all nodes t)
      (ends_as_list_step texts verdict (λ keep. kept_tree nodes keep t) (λ keep. levels_within N times (suc d) (kept_tree nodes keep t)) (length nodes) true
      ∙ ap (after_texts _ _) (within_end times (suc d) (kept_tree nodes outcome.result t))))
    where
      by_deep : (b : Bool) →
          trials_end texts verdict t (level_tried (λ w. levels_within N times (suc d) w) N d t) ≡ level_followed texts verdict
          (λ w. levels_followed texts verdict N times (suc d) w) N d t →
          trials_end texts verdict t (cond b (level_tried (λ w. levels_within N times (suc d) w) N d t) Done)
          ≡ cond b (level_followed texts verdict (λ w. levels_followed texts verdict N times (suc d) w) N d t) (end_at t)
      by_deep true same = same
      by_deep false same = refl

pub ends_by_levels : KeepingAllKeepsTree → EndsByLevels
ends_by_levels all N texts verdict t =
    allowed_end (fills_pluses N) texts verdict t (levels_within N (suc (depth t) - 0) 0 t)
    ∙ within_end all N (with_allowed (fills_pluses N) texts) verdict (suc (depth t) - 0) 0 t
    ∙ ap (λ times. levels_followed (with_allowed (fills_pluses N) texts) verdict N times 0 t) (as_many (suc (depth t)))
  where
    as_many : (n : ℕ) → n - 0 ≡ n
    as_many n = omega arith
