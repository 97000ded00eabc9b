-- Beside `../RoundsPlan.antt`: what private functions and proofs need.
use Rattle.std.specs.Prelude.{ℕ, Bool}
use Rattle.reduce_step.specs.Plan.{Plan}
use Rattle.reduce_rounds.specs.Trials.{Trials}
use Rattle.reduce_rounds.specs.Mode.{RoundMode}
use Rattle.reduce_rounds.specs.RoundsPlan.{plan_in, plan_next, plan_rounds}

-- within a round
abbrev pub plan_round : {T : Type 0} → RoundMode T → ℕ → T → Trials T → Bool → ℕ → Plan
plan_round mode rounds state trials changed used = plan_in mode (plan_next mode (plan_rounds mode) rounds) state trials changed used
