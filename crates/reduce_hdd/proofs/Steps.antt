-- The list step of one level: what it keeps, and what an answer leads to.
use Rattle.std.proofs.Common.{◌≡◌, ℕ, zero, suc, Bool, true, false, cond, List, Some, None, length, refl, sym, ap, ◌∙◌, subst}
use Rattle.std.proofs.lemmas.Bool.{cond-true}
use Rattle.std.proofs.lemmas.Option.{none-some, same_Some}
use Rattle.normal_form.specs.declared.normal.Sym.{Sym}
use Rattle.normal_form.specs.Form.{NormalForm}
use Rattle.list_ddmin.specs.Machine.{State, IsSound, asks, after, kept}
use Rattle.list_ddmin.proofs.Lent.{IsSound-after, asks_as_kept, keeps_length}
use Rattle.reduce_rounds.specs.Trials.{is_done, state_after, tried_state, trials_after}
use Rattle.syntax_tree.specs.Trees.{PlainTree}
use Rattle.syntax_tree.specs.Numbered.{NumbersRise}
use Rattle.syntax_tree.specs.Valid.{IsTreeFor}
use Rattle.syntax_tree.specs.Left.{IsRemainderOf}
use Rattle.syntax_tree.specs.LeftLaws.{LeftIsTransitive}
use Rattle.hdd_levels.specs.Levels.{fills_pluses, kept_only, kept_tree, level}
use Rattle.hdd_levels.specs.LevelForms.{parents_at}
use Rattle.hdd_levels.specs.Laws.{HigherNodesStay, KeptTreesAreLeft, KeptTreesAreTrees}
use Rattle.reduce_hdd.specs.Round.{levels_from}
use Rattle.reduce_hdd.specs.declared.level_step.LevelStep.{LevelStep}
use Rattle.reduce_hdd.specs.inner.Passing.{HasPassed}
use Rattle.reduce_hdd.specs.inner.Walking.{IsAskingStep, IsLevelStep, levels_below, step_left, step_trials}
use Rattle.reduce_hdd.proofs.Passed.{asking_after, asking_full, asking_left, asking_trials, asking_tried, goes_on_at_end, passing_length}

-- where no plus would be empty, what is to be kept is kept
pub is_kept : (N : NormalForm) (nodes : List ℕ) (keep : List Bool) (t u : PlainTree) (result : Bool) → fills_pluses N (kept_tree nodes keep t) ≡ true
    → kept_only N nodes keep t ≡ cond result (Some u) None → u ≡ kept_tree nodes keep t
is_kept N nodes keep t u true full e =
    sym (same_Some (kept_tree nodes keep t) u (sym (cond-true (fills_pluses N (kept_tree nodes keep t)) (Some (kept_tree nodes keep t)) None full) ∙ e))
is_kept N nodes keep t u false full e =
    absurd (none-some (kept_tree nodes keep t) (sym e ∙ cond-true (fills_pluses N (kept_tree nodes keep t)) (Some (kept_tree nodes keep t)) None full))

-- the nodes above a level stay
parents_stay : HigherNodesStay → (N : NormalForm) (t : PlainTree) (keep : List Bool) → NumbersRise t → (d : ℕ)
    → parents_at d (kept_tree (level N d t) keep t) ≡ parents_at d t
parents_stay stay N t keep rise zero = refl
parents_stay stay N t keep rise (suc d) = ap Some (stay N t d keep rise)

module _ (N : NormalForm) (t : PlainTree) (s : LevelStep) where
  pub parents_after : HigherNodesStay → NumbersRise t → IsLevelStep N t s → s.level.parents ≡ parents_at s.depth (step_left t s)
  parents_after stay rise is =
      is.level_is.parents
      ∙ sym (parents_stay stay N t (kept s.step) rise s.depth)
      ∙ ap (λ nodes. parents_at s.depth (kept_tree nodes (kept s.step) t)) (sym is.level_is.nodes)

  -- what the last yes kept is left
  pub settled : IsLevelStep N t s → (keep : List Bool) (u : PlainTree) (result : Bool) → keep ≡ kept s.step
      → kept_only N s.level.nodes keep t ≡ cond result (Some u) None → u ≡ step_left t s
  settled is keep u result same e =
      is_kept N s.level.nodes keep t u result (ap (λ flags. fills_pluses N (kept_tree s.level.nodes flags t)) same ∙ is.full) e
      ∙ ap (λ flags. kept_tree s.level.nodes flags t) same

  module _ (is : IsAskingStep N t s) where
    pub tried_is : tried_state (step_trials N t s) ≡ Some (kept_tree s.level.nodes is.asking.question t)
    tried_is = asking_tried N t s.level.nodes (λ u. levels_from N (suc s.depth) u) s.step is.asking.question is.step_is.sound is.asking.asked is.asking.may

    pub not_done : is_done (step_trials N t s) ≡ false
    not_done =
        ap is_done (asking_trials N t s.level.nodes
        (λ u. levels_from N (suc s.depth) u) s.step is.asking.question is.step_is.sound is.asking.asked is.asking.may)

    -- what it asks, as it is lent
    pub asked_each : (keep : List Bool) → Some keep ≡ asks s.step → length keep ≡ length s.level.nodes
    asked_each keep e = asks_as_kept s.step keep (sym e) ∙ is.step_is.each

    pub asked_tree : (keep : List Bool) → Some keep ≡ asks s.step → (u : PlainTree) (result : Bool)
        → kept_only N s.level.nodes keep t ≡ cond result (Some u) None → tried_state (step_trials N t s) ≡ Some u
    asked_tree keep e u result left =
        let same : keep ≡ is.asking.question = same_Some keep is.asking.question (e ∙ is.asking.asked) in
        let full : fills_pluses N (kept_tree s.level.nodes keep t) ≡ true =
        ap (λ flags. fills_pluses N (kept_tree s.level.nodes flags t)) same ∙ is.asking.may in
        tried_is ∙ ap Some (ap (λ flags. kept_tree s.level.nodes flags t) (sym same) ∙ sym (is_kept N s.level.nodes keep t u result full left))

    -- what is tried is valid, and left of the whole tree
    pub tried_kept : KeptTreesAreTrees → KeptTreesAreLeft → LeftIsTransitive → (symbol : Sym) (whole : PlainTree) → IsTreeFor N symbol t → NumbersRise t
        → IsRemainderOf whole t →
        (u : PlainTree) → tried_state (step_trials N t s) ≡ Some u → IsTreeFor N symbol u × IsRemainderOf whole u
    tried_kept trees left both symbol whole tree rise is_left u e =
        let is_it : kept_tree s.level.nodes is.asking.question t ≡ u = same_Some (kept_tree s.level.nodes is.asking.question t) u (sym tried_is ∙ e) in
        let fits : IsTreeFor N symbol (kept_tree s.level.nodes is.asking.question t) =
        subst (λ nodes. IsTreeFor N symbol (kept_tree nodes is.asking.question t)) (sym is.step_is.level_is.nodes)
        (trees N symbol t s.depth is.asking.question tree rise
        (subst (λ nodes. fills_pluses N (kept_tree nodes is.asking.question t) ≡ true) is.step_is.level_is.nodes is.asking.may)) in
        subst (λ (w : PlainTree). IsTreeFor N symbol w × IsRemainderOf whole w) is_it
        (fits, both whole t (kept_tree s.level.nodes is.asking.question t) is_left (left s.level.nodes is.asking.question t))

    -- after an answer
    module _ (yes : Bool) where
      pub sound_after : IsSound (after s.step yes)
      sound_after = IsSound-after s.step yes is.step_is.sound

      pub each_after : length (kept (after s.step yes)) ≡ length s.level.nodes
      each_after = keeps_length s.step yes ∙ is.step_is.each

      full_after : fills_pluses N (kept_tree s.level.nodes (kept (after s.step yes)) t) ≡ true
      full_after =
          asking_full N t s.level.nodes (λ u. levels_from N (suc s.depth) u) s.step is.asking.question is.step_is.sound is.asking.asked is.asking.may yes
          is.step_is.full

      -- and after the questions that are passed over then
      module _ (now : State) (asking : Bool) (so : HasPassed N t s.level.nodes (after s.step yes) now asking) where
        pub step_after : IsLevelStep N t (record s { step = now })
        step_after = record {
          level_is = is.step_is.level_is;
          sound = so.passed.sound;
          each = passing_length N t s.level.nodes (after s.step yes) now so.passed each_after;
          full = ap (λ keep. fills_pluses N (kept_tree s.level.nodes keep t)) so.passed.kept_is ∙ full_after;
        }

        pub asking_step : asking ≡ true → IsAskingStep N t (record s { step = now })
        asking_step more = record { step_is = step_after; asking = so.asks_more more }

        pub trials_then : step_trials N t (record s { step = now }) ≡ trials_after (step_trials N t s) yes
        trials_then =
            so.passed.rest (λ u. levels_from N (suc s.depth) u)
            ∙ sym (asking_after N t s.level.nodes (λ u. levels_from N (suc s.depth) u) s.step is.asking.question is.step_is.sound is.asking.asked is.asking.may
            yes)

        pub left_then : step_left t (record s { step = now }) ≡ state_after (step_left t s) (step_trials N t s) yes
        left_then =
            ap (λ keep. kept_tree s.level.nodes keep t) so.passed.kept_is
            ∙ sym (asking_left N t s.level.nodes (λ u. levels_from N (suc s.depth) u) s.step is.asking.question is.step_is.sound is.asking.asked is.asking.may
            yes)

        pub levels_then : asking ≡ false → levels_below N (suc s.depth) (step_left t (record s { step = now })) ≡ trials_after (step_trials N t s) yes
        levels_then none = sym (goes_on_at_end N t s.level.nodes (λ u. levels_from N (suc s.depth) u) now (so.is_over none)) ∙ trials_then
