-- Trials of a list step go by its machine, and the bound on its questions is never met.
use Rattle.std.proofs.Common.{◌≡◌, ◌<◌, ◌≤◌, ℕ, zero, suc, Bool, true, false, List, Option, Some, None, refl, ◌∙◌, arith}
use Rattle.list_ddmin.specs.Machine.{State, IsSound, asks, after, kept, left}
use Rattle.list_ddmin.proofs.Lent as list_left
use Rattle.list_ddmin.proofs.Lent.{IsSound-after}
use Rattle.reduce_rounds.specs.Trials.{Trials, Try}
use Rattle.reduce_rounds.specs.ListTrials.{by_question, list_trials, list_within}
use Rattle.reduce_rounds.specs.ListLaws.{GoesByQuestions}

-- what holds of none, and of each that is asked, holds
pub by_asked : {A : Type 0} (o : Option A) (P : Option A → Type 0) → (o ≡ None → P None) → ((x : A) → o ≡ Some x → P (Some x)) → P o
by_asked None P at_none at_some = at_none refl
by_asked (Some x) P at_none at_some = at_some x refl

-- an answer leaves fewer to come
pub fewer_left : (step : State) (question : List Bool) (answer : Bool) → IsSound step → asks step ≡ Some question → left (after step answer) < left step
fewer_left step question answer sound is = ((list_left.goes_on (λ keep. true) step question sound is).1 answer).1

module _ {T : Type 0} (state_of : List Bool → T) (next : List Bool → Trials T) where
  asked-at : (o : Option (List Bool)) (question : List Bool) (over y n : Trials T) → o ≡ Some question
      → by_question state_of over o y n ≡ Try (state_of question) y n
  asked-at None question over y n is = (cc)
  asked-at (Some other) question over y n is = let same : other ≡ question = cc in λ i. Try (state_of (same i)) y n

  over-at : (o : Option (List Bool)) (over y n : Trials T) → o ≡ None → by_question state_of over o y n ≡ over
  over-at None over y n is = refl
  over-at (Some other) over y n is = (cc)

  -- more questions than are left change nothing
  within-more : (n m : ℕ) (step : State) → IsSound step → left step ≤ n → left step ≤ m → list_within state_of next n step ≡ list_within state_of next m step
  unfolding list_within
  within-more zero zero step sound few few' = refl
  within-more zero (suc m) step sound few few' =
      by_asked (asks step) (λ o. next (kept step) ≡ by_question state_of (next (kept step)) o (list_within state_of next m (after step true))
      (list_within state_of next m (after step false)))
      (λ is. refl) (λ question is. absurd (let less = fewer_left step question true sound is in omega arith))
  within-more (suc n) zero step sound few few' =
      by_asked (asks step) (λ o. by_question state_of (next (kept step)) o (list_within state_of next n (after step true))
      (list_within state_of next n (after step false)) ≡ next (kept step))
      (λ is. refl) (λ question is. absurd (let less = fewer_left step question true sound is in omega arith))
  within-more (suc n) (suc m) step sound few few' =
      by_asked (asks step) (λ o. by_question state_of (next (kept step)) o (list_within state_of next n (after step true))
      (list_within state_of next n (after step false))
      ≡ by_question state_of (next (kept step)) o (list_within state_of next m (after step true)) (list_within state_of next m (after step false)))
      (λ is. refl)
      (λ question is.
      let at_yes = fewer_left step question true sound is in
      let at_no = fewer_left step question false sound is in
      λ i. Try (state_of question)
      (within-more n m (after step true) (IsSound-after step true sound) (omega arith) (omega arith) i)
      (within-more n m (after step false) (IsSound-after step false sound) (omega arith) (omega arith) i))

  pub at_end : (step : State) → asks step ≡ None → list_trials state_of next step ≡ next (kept step)
  unfolding list_within
  at_end step is = ending (left step)
    where
      ending : (n : ℕ) → list_within state_of next n step ≡ next (kept step)
      ending zero = refl
      ending (suc n) = over-at (asks step) _ _ _ is

  within-step : (n : ℕ) (step : State) (question : List Bool) → IsSound step → asks step ≡ Some question → left step ≤ n
      → list_within state_of next n step ≡ Try (state_of question) (list_trials state_of next (after step true)) (list_trials state_of next (after step false))
  unfolding list_within
  within-step zero step question sound is few = absurd (let less = fewer_left step question true sound is in omega arith)
  within-step (suc n) step question sound is few =
      let at_yes = fewer_left step question true sound is in
      let at_no = fewer_left step question false sound is in
      asked-at (asks step) question _ _ _ is
      ∙ (λ i. Try (state_of question)
      (within-more n (left (after step true)) (after step true) (IsSound-after step true sound) (omega arith) (omega arith) i)
      (within-more n (left (after step false)) (after step false) (IsSound-after step false sound) (omega arith) (omega arith) i))

  pub at_question : (step : State) (question : List Bool) → IsSound step → asks step ≡ Some question
      → list_trials state_of next step ≡ Try (state_of question) (list_trials state_of next (after step true)) (list_trials state_of next (after step false))
  at_question step question sound is = within-step (left step) step question sound is (omega arith)

  pub goes_by_questions : GoesByQuestions state_of next
  goes_by_questions = (at_question, at_end)
