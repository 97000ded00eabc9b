-- What holds of trials of which only some states may be tried.
use Rattle.std.proofs.Common.{◌≡◌, ℕ, inl, inr, Bool, true, false, cond, List, Some, replicate, refl, sym, ap, ◌∙◌, subst}
use Rattle.std.specs.Prelude.{◌&&◌}
use Rattle.std.proofs.lemmas.Bool.{cases_Bool, cond-false, cond-true}
use Rattle.list_ddmin.specs.Machine.{State, IsSound, asks, after, kept, start}
use Rattle.list_ddmin.proofs.Lent.{IsSound-start, keeps_all_at_first}
use Rattle.reduce_rounds.specs.Trials.{Trials, Done, Try, AllTried, EachIsSmaller, IsTriedAtNo}
use Rattle.reduce_rounds.specs.StateTexts.{StateTexts}
use Rattle.reduce_rounds.specs.Reduction.{after_question, after_yes}
use Rattle.reduce_rounds.specs.ByTrials.{trials_end}
use Rattle.reduce_rounds.specs.ListTrials.{list_trials}
use Rattle.reduce_rounds.specs.Selections.{IsRemainder, IsSelection}
use Rattle.reduce_rounds.specs.inner.Selections.{IsRemainderAt, IsSelectionAt}
use Rattle.reduce_rounds.proofs.Lent.{at_end, at_question, by_steps, kept_at_no, kept_at_yes, remainder-after}
use Rattle.reduce_rounds.proofs.Lent.{remainder-start, selection-after, selection-asked, selection-start}
use Rattle.reduce_hdd.specs.Allowed.{allowed_trials}
use Rattle.reduce_hdd.specs.Followed.{with_allowed}

module _ {T : Type 0} (test : T → Bool) where
  -- Each yes still makes the state smaller.
  pub allowed_smaller : (size : T → ℕ) (n : ℕ) (trials : Trials T) → EachIsSmaller size n trials → EachIsSmaller size n (allowed_trials test trials)
  allowed_smaller size n Done smaller = tt
  allowed_smaller size n (Try state y z) smaller =
      let at_yes = allowed_smaller size (size state) y smaller.1.0 in
      let at_no = allowed_smaller size n z smaller.1.1 in
      by_test (test state) (smaller.0, (at_yes, at_no)) at_no
    where
      by_test : (b : Bool) → EachIsSmaller size n (Try state (allowed_trials test y) (allowed_trials test z)) → EachIsSmaller size n (allowed_trials test z) →
          EachIsSmaller size n (cond b (Try state (allowed_trials test y) (allowed_trials test z)) (allowed_trials test z))
      by_test true first second = first
      by_test false first second = second

  -- What is tried at no and may be tried is still tried at no.
  pub allowed_tried : (trials : Trials T) (state : T) → test state ≡ true → IsTriedAtNo trials state → IsTriedAtNo (allowed_trials test trials) state
  allowed_tried Done state is tried = tried
  allowed_tried (Try other y z) state is (inl same) =
      let now : IsTriedAtNo (Try other (allowed_trials test y) (allowed_trials test z)) state = inl same in
      subst (λ trials. IsTriedAtNo trials state) (sym (cond-true (test other) _ (allowed_trials test z) (ap test same ∙ is))) now
  allowed_tried (Try other y z) state is (inr later) =
      let at_no = allowed_tried z state is later in
      by_test (test other) at_no
    where
      by_test : (b : Bool) → IsTriedAtNo (allowed_trials test z) state
          → IsTriedAtNo (cond b (Try other (allowed_trials test y) (allowed_trials test z)) (allowed_trials test z)) state
      by_test true at_no = inr at_no
      by_test false at_no = at_no

  -- Over a verdict the trials come to the same as those of all states, where a state that may not be tried isn't listed.
  pub allowed_end : (texts : StateTexts T) (verdict : List ℕ → Bool) (state : T) (trials : Trials T) →
      trials_end texts verdict state (allowed_trials test trials) ≡ trials_end (with_allowed test texts) verdict state trials
  allowed_end texts verdict state Done = refl
  allowed_end texts verdict state (Try other y z) =
      let at_yes : trials_end texts verdict other (allowed_trials test y) ≡ trials_end (with_allowed test texts) verdict other y =
      allowed_end texts verdict other y in
      let at_no : trials_end texts verdict state (allowed_trials test z) ≡ trials_end (with_allowed test texts) verdict state z =
      allowed_end texts verdict state z in
      by_listed (test other)
      (λ i. cond (texts.is_listed other) (after_question (texts.text other) (cond (verdict (texts.text other)) (after_yes (at_yes i)) (at_no i))) (at_no i))
      at_no
    where
      by_listed : (b : Bool) →
          trials_end texts verdict state (Try other (allowed_trials test y) (allowed_trials test z))
          ≡ cond (texts.is_listed other)
          (after_question (texts.text other) (cond (verdict (texts.text other)) (after_yes (trials_end (with_allowed test texts) verdict other y))
          (trials_end (with_allowed test texts) verdict state z)))
          (trials_end (with_allowed test texts) verdict state z) →
          trials_end texts verdict state (allowed_trials test z) ≡ trials_end (with_allowed test texts) verdict state z →
          trials_end texts verdict state (cond b (Try other (allowed_trials test y) (allowed_trials test z)) (allowed_trials test z))
          ≡ cond (b && texts.is_listed other)
          (after_question (texts.text other) (cond (verdict (texts.text other))
          (after_yes (trials_end (with_allowed test texts) verdict other y)) (trials_end (with_allowed test texts) verdict state z)))
          (trials_end (with_allowed test texts) verdict state z)
      by_listed true first second = first
      by_listed false first second = second

  -- At a question that may be asked it is tried; else it goes on as at no.
  module _ (state_of : List Bool → T) (next : List Bool → Trials T) where
    pub allowed_question : (step : State) (question : List Bool) → IsSound step → asks step ≡ Some question → test (state_of question) ≡ true →
        allowed_trials test (list_trials state_of next step)
        ≡ Try (state_of question) (allowed_trials test (list_trials state_of next (after step true)))
        (allowed_trials test (list_trials state_of next (after step false)))
    allowed_question step question sound is may =
        ap (allowed_trials test) (at_question state_of next step question sound is) ∙ cond-true (test (state_of question)) _ _ may

    pub passed_question : (step : State) (question : List Bool) → IsSound step → asks step ≡ Some question → test (state_of question) ≡ false →
        allowed_trials test (list_trials state_of next step) ≡ allowed_trials test (list_trials state_of next (after step false))
    passed_question step question sound is not_may =
        ap (allowed_trials test) (at_question state_of next step question sound is) ∙ cond-false (test (state_of question)) _ _ not_may

  -- What may be tried of a list step has P, where the states of selections have it that may be tried, and all that is tried from remainders that may.
  module _ (P : T → Type 0) (state_of : List Bool → T) (next : List Bool → Trials T) where
    record AllowedFrom (step : State) : Type 0 where
      all : ((keep : List Bool) → IsSelectionAt step keep → test (state_of keep) ≡ true → P (state_of keep)) →
          ((keep : List Bool) → IsRemainderAt step keep → test (state_of keep) ≡ true → AllTried P (allowed_trials test (next keep))) →
          test (state_of (kept step)) ≡ true → AllTried P (allowed_trials test (list_trials state_of next step))

    allowed_from : (step : State) → IsSound step → AllowedFrom step
    allowed_from =
        by_steps AllowedFrom
        (λ step sound none. record {
          all =
              λ tried ends may. subst (λ trials. AllTried P (allowed_trials test trials)) (sym (at_end state_of next step none))
              (ends (kept step) (inl refl) may);
        })
        (λ step question sound is at_yes at_no. record {
          all = λ tried ends may.
              let no = at_no.all
              (λ keep less. tried keep (selection-after step question sound is false keep less))
              (λ keep rest. ends keep (remainder-after step question sound is false keep rest))
              (subst (λ keep. test (state_of keep) ≡ true) (sym (kept_at_no step question sound is)) may) in
              elim (cases_Bool (test (state_of question))) [
                | inl allowed ↦
                    let y = at_yes.all
                    (λ keep less. tried keep (selection-after step question sound is true keep less))
                    (λ keep rest. ends keep (remainder-after step question sound is true keep rest))
                    (subst (λ keep. test (state_of keep) ≡ true) (sym (kept_at_yes step question sound is)) allowed) in
                    subst (AllTried P) (sym (allowed_question state_of next step question sound is allowed))
                    (tried question (selection-asked step question sound is) allowed, (y, no))
                | inr passed ↦ subst (AllTried P) (sym (passed_question state_of next step question sound is passed)) no
              ];
        })

    pub allowed_selections : (len : ℕ) (may_be_empty : Bool) →
        ((keep : List Bool) → IsSelection len may_be_empty keep → test (state_of keep) ≡ true → P (state_of keep)) →
        ((keep : List Bool) → IsRemainder len may_be_empty keep → test (state_of keep) ≡ true → AllTried P (allowed_trials test (next keep))) →
        test (state_of (replicate len true)) ≡ true → AllTried P (allowed_trials test (list_trials state_of next (start len may_be_empty)))
    allowed_selections len may_be_empty tried ends may =
        (allowed_from (start len may_be_empty) (IsSound-start len may_be_empty)).all
        (λ keep less. tried keep (selection-start len may_be_empty keep less)) (λ keep rest. ends keep (remainder-start len may_be_empty keep rest))
        (subst (λ keep. test (state_of keep) ≡ true) (sym (keeps_all_at_first len may_be_empty)) may)
