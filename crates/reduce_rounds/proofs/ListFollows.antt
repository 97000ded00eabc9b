-- What a list step tries follows, one after another.
use Rattle.std.proofs.Common.{inl, ℕ, Bool, true, false, List}
use Rattle.std.proofs.Common.{replicate, refl, sym, subst}
use Rattle.list_ddmin.specs.Machine.{State, IsSound, after, kept, start}
use Rattle.list_ddmin.specs.Asked.{KeepsFewer}
use Rattle.list_ddmin.proofs.Lent.{IsSound-start, keeps_all_at_first, asks_fewer}
use Rattle.reduce_rounds.specs.Trials.{Trials, EachFollows}
use Rattle.reduce_rounds.specs.ListTrials.{list_trials}
use Rattle.reduce_rounds.specs.Selections.{IsRemainder, IsSelection}
use Rattle.reduce_rounds.specs.inner.Selections.{IsRemainderAt, IsSelectionAt}
use Rattle.reduce_rounds.proofs.GoesOn.{at_end, at_question}
use Rattle.reduce_rounds.proofs.Steps.{by_steps, kept_at_no, kept_at_yes, remainder-after, remainder-start, selection-after, selection-asked, selection-start}

-- What a list step tries follows, where the states of fewer elements do.
module _ {T : Type 0} (R : T → T → Type 0) (state_of : List Bool → T) (next : List Bool → Trials T) where
  record FollowsFrom (step : State) : Type 0 where
    follows : ((question keep : List Bool) → IsRemainderAt step keep → IsSelectionAt step question → KeepsFewer question keep
        → R (state_of keep) (state_of question)) →
        ((keep : List Bool) → IsRemainderAt step keep → EachFollows R (state_of keep) (next keep))
        → EachFollows R (state_of (kept step)) (list_trials state_of next step)

  follows_from : (step : State) → IsSound step → FollowsFrom step
  follows_from =
      by_steps FollowsFrom
      (λ step sound none. record {
        follows = λ fewer ends. subst (EachFollows R (state_of (kept step))) (sym (at_end state_of next step none)) (ends (kept step) (inl refl));
      })
      (λ step question sound is at_yes at_no. record {
        follows = λ fewer ends.
            let after_yes = at_yes.follows
            (λ asked keep remain some less. fewer asked keep (remainder-after step question sound is true keep remain)
            (selection-after step question sound is true asked some) less)
            (λ keep remain. ends keep (remainder-after step question sound is true keep remain)) in
            let after_no = at_no.follows
            (λ asked keep remain some less. fewer asked keep (remainder-after step question sound is false keep remain)
            (selection-after step question sound is false asked some) less)
            (λ keep remain. ends keep (remainder-after step question sound is false keep remain)) in
            subst (EachFollows R (state_of (kept step))) (sym (at_question state_of next step question sound is)) (
              fewer question (kept step) (inl refl) (selection-asked step question sound is) (asks_fewer step question sound is).0,
              (
                subst (λ keep. EachFollows R (state_of keep) (list_trials state_of next (after step true))) (kept_at_yes step question sound is) after_yes,
                subst (λ keep. EachFollows R (state_of keep) (list_trials state_of next (after step false))) (kept_at_no step question sound is) after_no,
              ),
            );
      })

  pub list_follows : (len : ℕ) (may_be_empty : Bool) →
      ((question keep : List Bool) → IsRemainder len may_be_empty keep → IsSelection len may_be_empty question → KeepsFewer question keep
      → R (state_of keep) (state_of question)) →
      ((keep : List Bool) → IsRemainder len may_be_empty keep → EachFollows R (state_of keep) (next keep))
      → EachFollows R (state_of (replicate len true)) (list_trials state_of next (start len may_be_empty))
  list_follows len may_be_empty fewer ends =
      subst (λ keep. EachFollows R (state_of keep) (list_trials state_of next (start len may_be_empty))) (keeps_all_at_first len may_be_empty)
      ((follows_from (start len may_be_empty) (IsSound-start len may_be_empty)).follows
      (λ asked keep remain some less. fewer asked keep (remainder-start len may_be_empty keep remain) (selection-start len may_be_empty asked some) less)
      (λ keep remain. ends keep (remainder-start len may_be_empty keep remain)))
