-- The trials of three elements, computed: only what is asked is gone into.
use Rattle.std.proofs.Common.{◌≡◌, ◌≤◌, ℕ, zero, suc, Bool, true, false, List, [], ◌∷◌, Option, Some, None, refl, ◌∙◌, arith}
use Rattle.list_ddmin.specs.ListStep.{complement, kept_of, part}
use Rattle.list_ddmin.specs.Machine.{State, IsSound, asks, after, kept, left, start}
use Rattle.list_ddmin.proofs.Lent.{IsSound-after, IsSound-start}
use Rattle.reduce_rounds.specs.Trials.{Trials, Try}
use Rattle.reduce_rounds.specs.ListTrials.{list_trials}
use Rattle.reduce_rounds.specs.Worked.{WorkedTrials}
use Rattle.reduce_rounds.proofs.GoesOn.{at_end, at_question, by_asked, fewer_left}

module _ {T : Type 0} (state_of : List Bool → T) (next : List Bool → Trials T) where
  -- the trials after an answer are computed only where there is a question
  abbrev on_answer : Trials T → Option (List Bool) → (Bool → Trials T) → Trials T
  on_answer over None go = over
  on_answer over (Some question) go = Try (state_of question) (go true) (go false)

  abbrev unrolled : ℕ → State → Trials T
  unrolled zero step = next (kept step)
  unrolled (suc n) step = on_answer (next (kept step)) (asks step) (λ answer. unrolled n (after step answer))

  on_question : (over : Trials T) (o : Option (List Bool)) (question : List Bool) (go : Bool → Trials T) → o ≡ Some question
      → Try (state_of question) (go true) (go false) ≡ on_answer over o go
  on_question over None question go is = (cc)
  on_question over (Some other) question go is = let same : question ≡ other = cc in λ i. Try (state_of (same i)) (go true) (go false)

  on_end : (over : Trials T) (o : Option (List Bool)) (go : Bool → Trials T) → o ≡ None → over ≡ on_answer over o go
  on_end over None go is = refl
  on_end over (Some other) go is = (cc)

  unrolled-same : (n : ℕ) (step : State) → IsSound step → left step ≤ n → list_trials state_of next step ≡ unrolled n step
  unrolled-same zero step sound few =
      by_asked (asks step) (λ o. list_trials state_of next step ≡ next (kept step)) (at_end state_of next step)
      (λ question is. absurd (let less = fewer_left step question true sound is in omega arith))
  unrolled-same (suc n) step sound few =
      by_asked (asks step) (λ o. list_trials state_of next step ≡ on_answer (next (kept step)) (asks step) (λ answer. unrolled n (after step answer)))
      (λ is. at_end state_of next step is ∙ on_end (next (kept step)) (asks step) (λ answer. unrolled n (after step answer)) is)
      (λ question is.
      let at_yes = fewer_left step question true sound is in
      let at_no = fewer_left step question false sound is in
      at_question state_of next step question sound is
      ∙ ((λ i. Try (state_of question)
      (unrolled-same n (after step true) (IsSound-after step true sound) (omega arith) i)
      (unrolled-same n (after step false) (IsSound-after step false sound) (omega arith) i))
      ∙ on_question (next (kept step)) (asks step) question (λ answer. unrolled n (after step answer)) is))

pub worked_trials : WorkedTrials
unfolding part complement
worked_trials next =
    unrolled-same (λ keep. kept_of keep (1 ∷ 2 ∷ 3 ∷ [])) (λ keep. next (kept_of keep (1 ∷ 2 ∷ 3 ∷ []))) 60 (start 3 true) (IsSound-start 3 true) (omega arith)
