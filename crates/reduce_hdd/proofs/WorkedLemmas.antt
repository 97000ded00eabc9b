-- The rounds that were worked out by hand: one step of a round or of a list step after another.
use Rattle.std.proofs.Common.{◌≡◌, ℕ, suc, Bool, true, false, cond, List, refl, ap, ◌∙◌}
use Rattle.normal_form.specs.Form.{NormalForm}
use Rattle.list_ddmin.specs.Machine.{State, after, asks, kept}
use Rattle.list_ddmin.specs.ListStep.{part}
use Rattle.reduce_rounds.specs.Trials.{Trials, Done}
use Rattle.reduce_rounds.specs.ListTrials.{by_question, list_within}
use Rattle.syntax_tree.specs.Trees.{PlainTree}
use Rattle.hdd_levels.specs.Levels.{fills_pluses, is_so_deep}
use Rattle.reduce_walk.specs.WorkedTrees.{plus_form, worked_form}
use Rattle.reduce_hdd.specs.Allowed.{allowed_trials}
use Rattle.reduce_hdd.specs.Round.{level_tried, levels_within}
use Rattle.reduce_hdd.specs.Worked.{BlocksStay, PlusKeepsOne, StatementsGo}

-- one level of a round, and no more; one question, and the end, of a list step
level_next : (N : NormalForm) (times d : ℕ) (t : PlainTree)
    → levels_within N (suc times) d t ≡ cond (is_so_deep d t) (level_tried (λ u. levels_within N times (suc d) u) N d t) Done
unfolding levels_within
level_next N times d t = refl

level_none : (N : NormalForm) (d : ℕ) (t : PlainTree) → levels_within N 0 d t ≡ Done
unfolding levels_within
level_none N d t = refl

list_next : {T : Type 0} (state_of : List Bool → T) (next : List Bool → Trials T) (n : ℕ) (step : State) →
    list_within state_of next (suc n) step ≡ by_question state_of (next (kept step)) (asks step) (list_within state_of next n (after step true))
    (list_within state_of next n (after step false))
unfolding list_within
list_next state_of next n step = refl

list_none : {T : Type 0} (state_of : List Bool → T) (next : List Bool → Trials T) (step : State) → list_within state_of next 0 step ≡ next (kept step)
unfolding list_within
list_none state_of next step = refl

-- a level without deletable nodes
worked_empty : (times d : ℕ) (t : PlainTree)
    → levels_within worked_form (suc times) d t ≡ cond (is_so_deep d t) (level_tried (λ u. levels_within worked_form times (suc d) u) worked_form d t) Done
worked_empty times d t = level_next worked_form times d t

abbrev worked : Trials PlainTree → Trials PlainTree
worked trials = allowed_trials (fills_pluses worked_form) trials

abbrev with_plus : Trials PlainTree → Trials PlainTree
with_plus trials = allowed_trials (fills_pluses plus_form) trials

pub statements_go : StatementsGo
unfolding part
statements_go = (
  (
    _,
    _,
    _,
    ap worked (worked_empty 5 0 _ ∙ (list_none _ _ _ ∙ (worked_empty 4 1 _ ∙ (list_none _ _ _ ∙ (worked_empty 3 2 _ ∙ list_next _ _ 40 _))))),
    refl,
    (
      _,
      _,
      _,
      ap worked (list_next _ _ 39 _),
      refl,
      (
        _,
        _,
        _,
        ap worked (list_next _ _ 38 _),
        refl,
        (
          _,
          _,
          _,
          ap worked (list_next _ _ 37 _),
          refl,
          ap worked
              (list_next _ _ 36 _ ∙ (worked_empty 2 3 _
              ∙ (list_none _ _ _ ∙ (worked_empty 1 4 _ ∙ (list_none _ _ _ ∙ (worked_empty 0 5 _ ∙ (list_none _ _ _ ∙ level_none worked_form 6 _))))))),
        ),
      ),
    ),
  ),
  (
    _,
    _,
    _,
    ap worked (worked_empty 5 0 _ ∙ (list_none _ _ _ ∙ (worked_empty 4 1 _ ∙ (list_none _ _ _ ∙ (worked_empty 3 2 _ ∙ list_next _ _ 4 _))))),
    refl,
    ap worked
        (list_next _ _ 3 _ ∙ (worked_empty 2 3 _
        ∙ (list_none _ _ _ ∙ (worked_empty 1 4 _ ∙ (list_none _ _ _ ∙ (worked_empty 0 5 _ ∙ (list_none _ _ _ ∙ level_none worked_form 6 _))))))),
  ),
)

pub blocks_stay : BlocksStay
unfolding part
blocks_stay = (
  _,
  _,
  _,
  ap worked (worked_empty 9 0 _ ∙ (list_none _ _ _ ∙ (worked_empty 8 1 _ ∙ (list_none _ _ _ ∙ (worked_empty 7 2 _ ∙ list_next _ _ 4 _))))),
  refl,
  (
    _,
    _,
    _,
    ap worked (list_next _ _ 3 _ ∙ (worked_empty 6 3 _ ∙ (list_none _ _ _ ∙ (worked_empty 5 4 _ ∙ list_next _ _ 4 _)))),
    refl,
    (
      _,
      _,
      _,
      ap worked (list_next _ _ 3 _ ∙ (worked_empty 4 5 _ ∙ (list_none _ _ _ ∙ (worked_empty 3 6 _ ∙ list_next _ _ 4 _)))),
      refl,
      ap worked
          (list_next _ _ 3 _ ∙ (worked_empty 2 7 _
          ∙ (list_none _ _ _ ∙ (worked_empty 1 8 _ ∙ (list_none _ _ _ ∙ (worked_empty 0 9 _ ∙ (list_none _ _ _ ∙ level_none worked_form 10 _))))))),
    ),
  ),
)

pub plus_keeps_one : PlusKeepsOne
unfolding part
plus_keeps_one = (
  (
    _,
    _,
    _,
    ap with_plus (level_next plus_form 2 0 _
        ∙ (list_none _ _ _ ∙ (level_next plus_form 1 1 _ ∙ (list_none _ _ _ ∙ (level_next plus_form 0 2 _ ∙ (list_next _ _ 40 _))))))
        ∙ ap with_plus (list_next _ _ 39 _),
    refl,
    ap with_plus (list_next _ _ 38 _ ∙ level_none plus_form 3 _),
  ),
  ap with_plus (level_next plus_form 2 0 _
      ∙ (list_none _ _ _ ∙ (level_next plus_form 1 1 _ ∙ (list_none _ _ _ ∙ (level_next plus_form 0 2 _ ∙ list_next _ _ 4 _)))))
      ∙ ap with_plus (list_next _ _ 3 _ ∙ level_none plus_form 3 _),
)
