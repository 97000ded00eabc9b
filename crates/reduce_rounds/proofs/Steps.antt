-- What holds of the trials of a list step, by its questions; and what the states after an answer may still try.
use Rattle.std.proofs.Common.{◌≡◌, ◌<◌, ◌≤◌, ℕ, zero, suc, ◌⊎◌, inl, inr, ⊎_elim, Bool, true, false, List, Some, None, replicate, sym, ◌∙◌, subst, arith}
use Rattle.std.proofs.lemmas.List.{length-replicate}
use Rattle.list_ddmin.specs.ListStep.{kept_count}
use Rattle.list_ddmin.specs.Machine.{State, IsSound, asks, after, kept, left, start}
use Rattle.list_ddmin.specs.Asked.{KeepsFewer, IsNothing}
use Rattle.list_ddmin.proofs.Lent.{IsSound-after, kept_count-all, keeps_last_yes, keeps_all_at_first}
use Rattle.list_ddmin.proofs.Lent.{asks_fewer, asks_for_nothing_first, only-fewer, only-length}
use Rattle.reduce_rounds.specs.Selections.{IsSelection, IsRemainder}
use Rattle.reduce_rounds.specs.inner.Selections.{IsSelectionAt, IsRemainderAt}
use Rattle.reduce_rounds.proofs.GoesOn.{by_asked, fewer_left}

-- what holds where nothing is asked, and at a question if it does after both answers, holds of each sound state
module _ (C : State → Type 0)
    (at_none : (step : State) → IsSound step → asks step ≡ None → C step)
    (at_some : (step : State) (question : List Bool) → IsSound step → asks step ≡ Some question → C (after step true) → C (after step false) → C step) where
  by_steps_within : (n : ℕ) (step : State) → IsSound step → left step ≤ n → C step
  by_steps_within zero step sound few =
      by_asked (asks step) (λ o. C step) (at_none step sound) (λ question is. absurd (let less = fewer_left step question true sound is in omega arith))
  by_steps_within (suc n) step sound few =
      by_asked (asks step) (λ o. C step) (at_none step sound)
      (λ question is.
      let at_yes = fewer_left step question true sound is in
      let at_no = fewer_left step question false sound is in
      at_some step question sound is
      (by_steps_within n (after step true) (IsSound-after step true sound) (omega arith))
      (by_steps_within n (after step false) (IsSound-after step false sound) (omega arith)))

  pub by_steps : (step : State) → IsSound step → C step
  by_steps step sound = by_steps_within (left step) step sound (omega arith)

module _ (step : State) (question : List Bool) (sound : IsSound step) (asked : asks step ≡ Some question) where
  pub kept_at_yes : kept (after step true) ≡ question
  kept_at_yes = (keeps_last_yes step question asked).0

  pub kept_at_no : kept (after step false) ≡ kept step
  kept_at_no = (keeps_last_yes step question asked).1

  pub selection-asked : IsSelectionAt step question
  selection-asked = let both = asks_fewer step question sound asked in record { fewer = both.0; some = both.1 }

  fewer-after : (answer : Bool) (keep : List Bool) → KeepsFewer keep (kept (after step answer)) → KeepsFewer keep (kept step)
  fewer-after true keep less = only-fewer (subst (KeepsFewer keep) kept_at_yes less) (asks_fewer step question sound asked).0
  fewer-after false keep less = subst (KeepsFewer keep) kept_at_no less

  -- what may be tried after an answer might be tried before
  pub selection-after : (answer : Bool) (keep : List Bool) → IsSelectionAt (after step answer) keep → IsSelectionAt step keep
  selection-after answer keep is = record {
    fewer = fewer-after answer keep is.fewer;
    some = ⊎_elim (λ some. inl some) (λ nothing. absurd (asks_for_nothing_first.0 step answer nothing)) is.some;
  }

  pub remainder-after : (answer : Bool) (keep : List Bool) → IsRemainderAt (after step answer) keep → IsRemainderAt step keep
  remainder-after true keep is =
      ⊎_elim (λ same. inr (subst (IsSelectionAt step) (sym (same ∙ kept_at_yes)) selection-asked)) (λ less. inr (selection-after true keep less)) is
  remainder-after false keep is = ⊎_elim (λ same. inl (same ∙ kept_at_no)) (λ less. inr (selection-after false keep less)) is

module _ (len : ℕ) where
  some_unless_all : (may_be_empty : Bool) (keep : List Bool) → (0 < kept_count keep) ⊎ IsNothing (start len may_be_empty) → may_be_empty ≡ false
      → 0 < kept_count keep
  some_unless_all true keep some is = (cc)
  some_unless_all false keep some is = ⊎_elim (λ more. more) (λ nothing. absurd (asks_for_nothing_first.1 len nothing)) some

  pub selection-start : (may_be_empty : Bool) (keep : List Bool) → IsSelectionAt (start len may_be_empty) keep → IsSelection len may_be_empty keep
  selection-start may_be_empty keep is =
      let less : KeepsFewer keep (replicate len true) = subst (KeepsFewer keep) (keeps_all_at_first len may_be_empty) is.fewer in
      let all : kept_count (replicate len true) ≡ len = kept_count-all len in
      record {
        length = only-length keep (replicate len true) less.only ∙ length-replicate len true;
        fewer = omega arith;
        some = some_unless_all may_be_empty keep is.some;
      }

  pub remainder-start : (may_be_empty : Bool) (keep : List Bool) → IsRemainderAt (start len may_be_empty) keep → IsRemainder len may_be_empty keep
  remainder-start may_be_empty keep is =
      ⊎_elim (λ same. inl (same ∙ keeps_all_at_first len may_be_empty)) (λ less. inr (selection-start may_be_empty keep less)) is
