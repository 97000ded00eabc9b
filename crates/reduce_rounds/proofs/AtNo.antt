-- What is tried if all answers are no.
use Rattle.std.proofs.Common.{◌≡◌, ◌<◌, ◌≤◌, ℕ, zero, suc, inl, inr, ⊎_elim, Bool, true, false, List, [], ◌∷◌, Some}
use Rattle.std.proofs.Common.{replicate, slice_get, slice_set, refl, sym, ap, ◌∙◌, subst, arith}
use Rattle.list_ddmin.specs.ListStep.{Outcome, kept_count, list_step}
use Rattle.list_ddmin.specs.Machine.{State, IsSound, Answered, after, kept, start}
use Rattle.list_ddmin.specs.Asked.{WasAsked}
use Rattle.list_ddmin.proofs.Lent.{IsSound-after, IsSound-start, follows_list_step, kept_count-all, deletions_asked, keeps_all_at_first}
use Rattle.reduce_rounds.specs.Trials.{Trials, IsTriedAtNo}
use Rattle.reduce_rounds.specs.ListTrials.{list_trials}
use Rattle.reduce_rounds.specs.ListLaws.{TriesDeletions}
use Rattle.reduce_rounds.proofs.GoesOn.{at_end, at_question}
use Rattle.reduce_rounds.proofs.Steps.{kept_at_no}

-- each answer is no
abbrev never : List Bool → Bool
never keep = false

-- no answer gives anything up
all_remain : (questions : List (List Bool)) (step : State) (result : List Bool) → IsSound step → Answered never step questions result → result ≡ kept step
all_remain [] step result sound run = sym run.1
all_remain (question ∷ questions) step result sound run =
    all_remain questions (after step false) result (IsSound-after step false sound) run.1 ∙ kept_at_no step question sound run.0

get-all : (len k : ℕ) → k < len → slice_get (replicate len true) k ≡ Some true
get-all zero k below = absurd (omega arith)
get-all (suc len) zero below = refl
get-all (suc len) (suc k) below = get-all len k (omega arith)

remain_of_start : (len : ℕ) (may_be_empty : Bool) → (list_step never len may_be_empty).result ≡ replicate len true
remain_of_start len may_be_empty =
    all_remain (list_step never len may_be_empty).questions (start len may_be_empty) (list_step never len may_be_empty).result (IsSound-start len may_be_empty)
    (follows_list_step never len may_be_empty)
    ∙ keeps_all_at_first len may_be_empty

-- where all answers are no, each list with one element fewer is asked
deletion_asked : (len k : ℕ) (may_be_empty : Bool) → k < len → (may_be_empty ≡ false → 2 ≤ len)
    → WasAsked (list_step never len may_be_empty).questions (slice_set (replicate len true) k false)
deletion_asked len k true below two =
    let all : (list_step never len true).result ≡ replicate len true = remain_of_start len true in
    subst (λ keep. WasAsked (list_step never len true).questions (slice_set keep k false)) all
    ((deletions_asked never len k).0 (subst (λ keep. slice_get keep k ≡ Some true) (sym all) (get-all len k below)))
deletion_asked len k false below two =
    let all : (list_step never len false).result ≡ replicate len true = remain_of_start len false in
    let count : kept_count (replicate len true) ≡ len = kept_count-all len in
    let many : 2 ≤ len = two refl in
    subst (λ keep. WasAsked (list_step never len false).questions (slice_set keep k false)) all
    ((deletions_asked never len k).1 (subst (λ keep. 2 ≤ kept_count keep) (sym all) (omega arith))
    (subst (λ keep. slice_get keep k ≡ Some true) (sym all) (get-all len k below)))

module _ {T : Type 0} (state_of : List Bool → T) (next : List Bool → Trials T) where
  tried_if_asked : (questions : List (List Bool)) (step : State) (result : List Bool) → IsSound step → Answered never step questions result
      → (keep : List Bool) → WasAsked questions keep → IsTriedAtNo (list_trials state_of next step) (state_of keep)
  tried_if_asked [] step result sound run keep asked = absurd asked
  tried_if_asked (question ∷ questions) step result sound run keep asked =
      subst (λ trials. IsTriedAtNo trials (state_of keep)) (sym (at_question state_of next step question sound run.0))
      (⊎_elim (λ same. inl (ap state_of same))
      (λ later. inr (tried_if_asked questions (after step false) result (IsSound-after step false sound) run.1 keep later)) asked)

  tried_at_end : (questions : List (List Bool)) (step : State) (result : List Bool) → IsSound step → Answered never step questions result
      → (state : T) → IsTriedAtNo (next result) state → IsTriedAtNo (list_trials state_of next step) state
  tried_at_end [] step result sound run state tried =
      subst (λ trials. IsTriedAtNo trials state) (sym (at_end state_of next step run.0)) (subst (λ keep. IsTriedAtNo (next keep) state) (sym run.1) tried)
  tried_at_end (question ∷ questions) step result sound run state tried =
      subst (λ trials. IsTriedAtNo trials state) (sym (at_question state_of next step question sound run.0))
      (inr (tried_at_end questions (after step false) result (IsSound-after step false sound) run.1 state tried))

  pub tries_deletions : TriesDeletions state_of next
  tries_deletions len may_be_empty =
      let o : Outcome = list_step never len may_be_empty in (
        λ k below two. tried_if_asked o.questions (start len may_be_empty) o.result (IsSound-start len may_be_empty) (follows_list_step never len may_be_empty)
            (slice_set (replicate len true) k false) (deletion_asked len k may_be_empty below two),
        λ state tried. tried_at_end o.questions (start len may_be_empty) o.result (IsSound-start len may_be_empty)
            (follows_list_step never len may_be_empty) state
            (subst (λ keep. IsTriedAtNo (next keep) state) (sym (remain_of_start len may_be_empty)) tried),
      )
