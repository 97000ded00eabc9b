-- All that may be asked is the text of a listed state that is kept.
use Rattle.std.proofs.Common.{◌≡◌, ⊎_elim, ℕ, suc, zero, ◌+◌, Bool, true, false, List, Option, Some, None, refl}
use Rattle.std.specs.Prelude.{IfSome}
use Rattle.std.specs.Option.{option_map_or}
use Rattle.reduce_step.specs.Plan.{Plan, StepResult, End, MayAsk}
use Rattle.reduce_rounds.specs.Trials.{Trials, Done, Try, AllTried}
use Rattle.reduce_rounds.specs.Mode.{RoundMode, Keeps}
use Rattle.reduce_rounds.specs.RoundsPlan.{ask_if, plan_first, plan_in, plan_next, plan_opening, plan_rounds, plan_within, step_result}
use Rattle.reduce_rounds.specs.Reduction.{capped_count}
use Rattle.reduce_rounds.specs.Laws.{AsksCandidates, IsTextOf}

module _ {T : Type 0} (mode : RoundMode T) (Kept : T → Type 0) (keeps : Keeps mode Kept) where
  OnlyTexts : Plan → Type 0
  OnlyTexts plan = (text : List ℕ) → MayAsk plan text → IsTextOf mode Kept text

  asked_or_passed : (listed : Bool) (other : T) (y n p : Plan) → mode.is_listed other ≡ listed → Kept other → OnlyTexts y → OnlyTexts n → OnlyTexts p
      → OnlyTexts (ask_if listed (mode.text other) y n p)
  unfolding OnlyTexts
  asked_or_passed false other y n p is has at_yes at_no passed = passed
  asked_or_passed true other y n p is has at_yes at_no passed =
      λ text may. ⊎_elim (λ same. record { state = other; kept = has; listed = is; same = same }) (λ later. ⊎_elim (at_yes text) (at_no text) later) may

  in_trials : (go : T → Bool → ℕ → Plan) → ((state : T) (changed : Bool) (used : ℕ) → Kept state → OnlyTexts (go state changed used))
      → (state : T) (trials : Trials T) (changed : Bool) (used : ℕ) → Kept state → AllTried Kept trials → OnlyTexts (plan_in mode go state trials changed used)
  in_trials go each state Done changed used has all = each state changed used has
  in_trials go each state (Try other at_yes at_no) changed used has all =
      asked_or_passed (mode.is_listed other) other _ _ _ refl all.0
      (in_trials go each other at_yes true (capped_count (used + 1)) all.0 all.1.0)
      (in_trials go each state at_no changed (capped_count (used + 1)) has all.1.1)
      (in_trials go each state at_no changed used has all.1.1)

  in_phase : (go : T → Plan) (result : StepResult) (o : Option T) → IfSome o Kept → ((state : T) → Kept state → OnlyTexts (go state))
      → OnlyTexts (option_map_or go o (End result))
  unfolding OnlyTexts
  in_phase go result None has each = λ text may. absurd may
  in_phase go result (Some state) has each = each state has

  next : (go : ℕ → ℕ → T → Plan) (rounds : ℕ) (state : T) (changed : Bool) (used : ℕ) → Kept state
      → ((r u : ℕ) (remaining : T) → Kept remaining → OnlyTexts (go r u remaining)) → OnlyTexts (plan_next mode go rounds state changed used)
  unfolding OnlyTexts
  next go rounds state true used has each = each (capped_count (rounds + 1)) used state has
  next go rounds state false used has each =
      in_phase (go (capped_count (rounds + 1)) used) (step_result mode state used (capped_count (rounds + 1)) false) (mode.next_phase state)
      (keeps.phase state has) (each (capped_count (rounds + 1)) used)

  in_rounds : (n rounds used : ℕ) (state : T) → Kept state → OnlyTexts (plan_within n mode rounds used state)
  unfolding plan_within OnlyTexts
  in_rounds zero rounds used state has = λ text may. absurd may
  in_rounds (suc n) rounds used state has =
      in_trials (plan_next mode (λ r u l. plan_within n mode r u l) rounds)
      (λ remaining changed used' has'. next (λ r u l. plan_within n mode r u l) rounds remaining changed used' has' (λ r u l has''. in_rounds n r u l has''))
      state (mode.round state) false used has (keeps.round state has)

  in_all_rounds : (rounds used : ℕ) (state : T) → Kept state → OnlyTexts (plan_rounds mode rounds used state)
  unfolding plan_rounds
  in_all_rounds rounds used state has = in_rounds (suc (mode.measure state)) rounds used state has

  whole : mode.is_listed mode.start ≡ true → OnlyTexts (plan_first mode)
  unfolding OnlyTexts
  whole first =
      asked_or_passed true mode.start (plan_opening mode 0 mode.start mode.opening 1) (End (step_result mode mode.start 1 0 true))
      (End (step_result mode mode.start 1 0 true)) first keeps.start
      (in_trials (λ remaining changed used'. plan_rounds mode 0 used' remaining)
      (λ remaining changed used' has. in_all_rounds 0 used' remaining has) mode.start mode.opening false 1 keeps.start keeps.opening)
      (λ text may. absurd may) (λ text may. absurd may)

pub asks_candidates : {T : Type 0} (mode : RoundMode T) (Kept : T → Type 0) → AsksCandidates mode Kept
unfolding OnlyTexts
asks_candidates mode Kept keeps first text may = whole mode Kept keeps first text may
