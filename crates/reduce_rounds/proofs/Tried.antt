-- What holds of all that a list step tries, and of the sizes of its states.
use Rattle.std.proofs.Common.{◌≡◌, ◌<◌, ℕ, inl, Bool, true, false, List, length, replicate, refl, sym, ap, ◌∙◌, subst}
use Rattle.std.proofs.lemmas.List.{length-replicate}
use Rattle.list_ddmin.specs.Machine.{State, IsSound, after, kept, start}
use Rattle.list_ddmin.specs.Asked.{KeepsFewer}
use Rattle.list_ddmin.proofs.Lent.{IsSound-start, keeps_length, keeps_all_at_first, asks_fewer}
use Rattle.reduce_rounds.specs.Trials.{Trials, Try, AllTried, EachIsSmaller}
use Rattle.reduce_rounds.specs.ListTrials.{list_trials}
use Rattle.reduce_rounds.specs.inner.Selections.{IsSelectionAt, IsRemainderAt}
use Rattle.reduce_rounds.specs.ListLaws.{BecomesSmaller, SameByKeepLists, TriesSelections}
use Rattle.reduce_rounds.specs.inner.ListLaws.{BecomesSmallerAt, SameByKeepListsAt, TriesSelectionsAt}
use Rattle.reduce_rounds.proofs.GoesOn.{at_end, at_question}
use Rattle.reduce_rounds.proofs.Steps.{by_steps, kept_at_no, kept_at_yes, remainder-after, remainder-start, selection-after, selection-asked, selection-start}

-- What a list step tries has P.
module _ {T : Type 0} (P : T → Type 0) (state_of : List Bool → T) (next : List Bool → Trials T) where
  record AllFrom (step : State) : Type 0 where
    all : ((keep : List Bool) → IsSelectionAt step keep → P (state_of keep)) → ((keep : List Bool) → IsRemainderAt step keep → AllTried P (next keep))
        → AllTried P (list_trials state_of next step)

  all_from : (step : State) → IsSound step → AllFrom step
  all_from =
      by_steps AllFrom
      (λ step sound none. record { all = λ tried ends. subst (AllTried P) (sym (at_end state_of next step none)) (ends (kept step) (inl refl)) })
      (λ step question sound is at_yes at_no. record {
        all = λ tried ends. subst (AllTried P) (sym (at_question state_of next step question sound is)) (
          tried question (selection-asked step question sound is),
          (
            at_yes.all (λ keep less. tried keep (selection-after step question sound is true keep less))
                (λ keep rest. ends keep (remainder-after step question sound is true keep rest)),
            at_no.all (λ keep less. tried keep (selection-after step question sound is false keep less))
                (λ keep rest. ends keep (remainder-after step question sound is false keep rest)),
          ),
        );
      })

  pub tries_selections_at : TriesSelectionsAt P state_of next
  tries_selections_at step sound = (all_from step sound).all

  pub tries_selections : TriesSelections P state_of next
  tries_selections len may_be_empty tried ends =
      tries_selections_at (start len may_be_empty) (IsSound-start len may_be_empty)
      (λ keep less. tried keep (selection-start len may_be_empty keep less)) (λ keep rest. ends keep (remainder-start len may_be_empty keep rest))

-- Each yes of a list step makes the state smaller.
module _ {T : Type 0} (size : T → ℕ) (state_of : List Bool → T) (next : List Bool → Trials T) where
  -- so many flags, and fewer elements make the state smaller
  IsRising : ℕ → Type 0
  IsRising len = (question keep : List Bool) → length keep ≡ len → KeepsFewer question keep → size (state_of question) < size (state_of keep)

  by_fewer : (len : ℕ) → IsRising len → (question keep : List Bool) → length keep ≡ len → KeepsFewer question keep
      → size (state_of question) < size (state_of keep)
  unfolding IsRising
  by_fewer len rises question keep same less = rises question keep same less

  record SmallerFrom (step : State) : Type 0 where
    smaller : IsRising (length (kept step)) → ((keep : List Bool) → IsRemainderAt step keep → EachIsSmaller size (size (state_of keep)) (next keep))
        → EachIsSmaller size (size (state_of (kept step))) (list_trials state_of next step)

  smaller_from : (step : State) → IsSound step → SmallerFrom step
  smaller_from =
      by_steps SmallerFrom
      (λ step sound none. record {
        smaller = λ rises ends. subst (EachIsSmaller size (size (state_of (kept step)))) (sym (at_end state_of next step none)) (ends (kept step) (inl refl));
      })
      (λ step question sound is at_yes at_no. record {
        smaller = λ rises ends.
            let yes_flags : IsRising (length (kept (after step true))) = subst IsRising (sym (keeps_length step true)) rises in
            let no_flags : IsRising (length (kept (after step false))) = subst IsRising (sym (keeps_length step false)) rises in
            let after_yes = at_yes.smaller yes_flags (λ keep rest. ends keep (remainder-after step question sound is true keep rest)) in
            let after_no = at_no.smaller no_flags (λ keep rest. ends keep (remainder-after step question sound is false keep rest)) in
            subst (EachIsSmaller size (size (state_of (kept step)))) (sym (at_question state_of next step question sound is)) (
              by_fewer (length (kept step)) rises question (kept step) refl (asks_fewer step question sound is).0,
              (
                subst (λ keep. EachIsSmaller size (size (state_of keep)) (list_trials state_of next (after step true)))
                    (kept_at_yes step question sound is) after_yes,
                subst (λ keep. EachIsSmaller size (size (state_of keep)) (list_trials state_of next (after step false)))
                    (kept_at_no step question sound is) after_no,
              ),
            );
      })

  pub becomes_smaller_at : BecomesSmallerAt size state_of next
  unfolding IsRising
  becomes_smaller_at step sound = (smaller_from step sound).smaller

  pub becomes_smaller : BecomesSmaller size state_of next
  becomes_smaller len may_be_empty rises ends =
      let all : kept (start len may_be_empty) ≡ replicate len true = keeps_all_at_first len may_be_empty in
      subst (λ keep. EachIsSmaller size (size (state_of keep)) (list_trials state_of next (start len may_be_empty))) all
      (becomes_smaller_at (start len may_be_empty) (IsSound-start len may_be_empty)
      (λ question keep same less. rises question keep (same ∙ (ap length all ∙ length-replicate len true)) less)
      (λ keep rest. ends keep (remainder-start len may_be_empty keep rest)))

-- Trials by the same states are the same.
module _ {T : Type 0} (state_of state_of' : List Bool → T) (next next' : List Bool → Trials T) where
  record SameFrom (step : State) : Type 0 where
    same : ((keep : List Bool) → IsSelectionAt step keep → state_of keep ≡ state_of' keep)
        → ((keep : List Bool) → IsRemainderAt step keep → next keep ≡ next' keep)
        → list_trials state_of next step ≡ list_trials state_of' next' step

  same_from : (step : State) → IsSound step → SameFrom step
  same_from =
      by_steps SameFrom
      (λ step sound none. record {
        same = λ states ends. at_end state_of next step none ∙ (ends (kept step) (inl refl) ∙ sym (at_end state_of' next' step none));
      })
      (λ step question sound is at_yes at_no. record {
        same = λ states ends.
            let here = states question (selection-asked step question sound is) in
            let y =
            at_yes.same (λ keep less. states keep (selection-after step question sound is true keep less))
            (λ keep rest. ends keep (remainder-after step question sound is true keep rest)) in
            let n =
            at_no.same (λ keep less. states keep (selection-after step question sound is false keep less))
            (λ keep rest. ends keep (remainder-after step question sound is false keep rest)) in
            at_question state_of next step question sound is ∙ ((λ i. Try (here i) (y i) (n i)) ∙ sym (at_question state_of' next' step question sound is));
      })

  pub same_by_keep_lists_at : SameByKeepListsAt state_of state_of' next next'
  same_by_keep_lists_at step sound = (same_from step sound).same

  pub same_by_keep_lists : SameByKeepLists state_of state_of' next next'
  same_by_keep_lists len may_be_empty states ends =
      same_by_keep_lists_at (start len may_be_empty) (IsSound-start len may_be_empty)
      (λ keep less. states keep (selection-start len may_be_empty keep less)) (λ keep rest. ends keep (remainder-start len may_be_empty keep rest))
