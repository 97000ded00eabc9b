-- The trials of a list step end as the list step does.
use Rattle.std.proofs.Common.{◌≡◌, ℕ, Bool, true, false, cond, List, ◌∷◌, sym, ap, ◌∙◌, subst}
use Rattle.std.specs.Prelude.{◌&&◌, ◌||◌}
use Rattle.std.specs.List.{list_any}
use Rattle.list_ddmin.specs.ListStep.{Outcome}
use Rattle.list_ddmin.specs.Machine.{State, IsSound, after, kept, rest_of, start}
use Rattle.list_ddmin.proofs.Lent.{IsSound-start, begins_list_step, rest_of-after, stops_at_end, keeps_all_at_first}
use Rattle.reduce_rounds.specs.Trials.{Trials}
use Rattle.reduce_rounds.specs.StateTexts.{StateTexts}
use Rattle.reduce_rounds.specs.Reduction.{RoundEnd, after_question, after_yes}
use Rattle.reduce_rounds.specs.ByTrials.{trials_end}
use Rattle.reduce_rounds.specs.ListTrials.{list_trials}
use Rattle.reduce_rounds.specs.ListEnd.{after_texts, keep_verdict, listed_texts}
use Rattle.reduce_rounds.specs.ListLaws.{EndsAsListStep, end_after}
use Rattle.reduce_rounds.specs.inner.ListLaws.{EndsAsRest}
use Rattle.reduce_rounds.proofs.GoesOn.{at_end, at_question}
use Rattle.reduce_rounds.proofs.Steps.{by_steps, kept_at_no, kept_at_yes}

module _ {T : Type 0} (texts : StateTexts T) (verdict : List ℕ → Bool) (state_of : List Bool → T) (next : List Bool → Trials T) where
  -- the end of an outcome
  abbrev ending : Outcome → RoundEnd T
  ending outcome = end_after texts verdict state_of next outcome

  -- the end where a question comes before, whose state has this text, may be listed, and has this answer
  abbrev ending_first : Bool → Bool → List ℕ → Outcome → RoundEnd T
  ending_first listed answer text outcome =
      after_texts (cond listed (text ∷ listed_texts texts state_of outcome.questions) (listed_texts texts state_of outcome.questions))
      ((listed && answer) || list_any (keep_verdict texts verdict state_of) outcome.questions)
      (trials_end texts verdict (state_of outcome.result) (next outcome.result))

  first_ends : (listed answer : Bool) (text : List ℕ) (ey en : RoundEnd T) (rest : Bool → Outcome) → ey ≡ ending (rest true) → en ≡ ending (rest false)
      → cond listed (after_question text (cond answer (after_yes ey) en)) en ≡ ending_first listed answer text (rest (listed && answer))
  first_ends false answer text ey en rest at_yes at_no = at_no
  first_ends true true text ey en rest at_yes at_no = ap (λ e. after_question text (after_yes e)) at_yes
  first_ends true false text ey en rest at_yes at_no = ap (after_question text) at_no

  record EndsFrom (step : State) : Type 0 where
    ends : trials_end texts verdict (state_of (kept step)) (list_trials state_of next step) ≡ ending (rest_of (keep_verdict texts verdict state_of) step)

  ends_from : (step : State) → IsSound step → EndsFrom step
  ends_from =
      by_steps EndsFrom
      (λ step sound none. record {
        ends =
            ap (trials_end texts verdict (state_of (kept step))) (at_end state_of next step none)
            ∙ ap ending (sym (stops_at_end (keep_verdict texts verdict state_of) step none));
      })
      (λ step question sound is at_yes at_no. record {
        ends =
            let y : trials_end texts verdict (state_of question) (list_trials state_of next (after step true)) ≡ ending
            (rest_of (keep_verdict texts verdict state_of) (after step true)) =
            subst (λ keep. trials_end texts verdict (state_of keep) (list_trials state_of next (after step true)) ≡ ending
            (rest_of (keep_verdict texts verdict state_of) (after step true))) (kept_at_yes step question sound is) at_yes.ends in
            let n : trials_end texts verdict (state_of (kept step)) (list_trials state_of next (after step false)) ≡ ending
            (rest_of (keep_verdict texts verdict state_of) (after step false)) =
            subst (λ keep. trials_end texts verdict (state_of keep) (list_trials state_of next (after step false)) ≡ ending
            (rest_of (keep_verdict texts verdict state_of) (after step false))) (kept_at_no step question sound is) at_no.ends in
            ap (trials_end texts verdict (state_of (kept step))) (at_question state_of next step question sound is)
            ∙ (first_ends (texts.is_listed (state_of question)) (verdict (texts.text (state_of question))) (texts.text (state_of question)) _ _
            (λ answer. rest_of (keep_verdict texts verdict state_of) (after step answer)) y n
            ∙ ap ending (sym (rest_of-after (keep_verdict texts verdict state_of) step question sound is)));
      })

  pub ends_as_rest : EndsAsRest texts verdict state_of next
  ends_as_rest step sound = (ends_from step sound).ends

  pub ends_as_list_step : EndsAsListStep texts verdict state_of next
  ends_as_list_step len may_be_empty =
      subst (λ keep. trials_end texts verdict (state_of keep) (list_trials state_of next (start len may_be_empty)) ≡ ending
      (rest_of (keep_verdict texts verdict state_of) (start len may_be_empty)))
      (keeps_all_at_first len may_be_empty) (ends_as_rest (start len may_be_empty) (IsSound-start len may_be_empty))
      ∙ ap ending (begins_list_step (keep_verdict texts verdict state_of) len may_be_empty).1
