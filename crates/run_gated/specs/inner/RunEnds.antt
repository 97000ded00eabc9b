-- Beside `../RunEnds.antt`: what private functions and proofs need.
use Rattle.std.specs.Prelude.{◌≡◌, ℕ, true, false, Option, Some, None, Result, Ok, Err}
use Rattle.reduce_step.specs.Plan.{StepResult}
use Rattle.ordered_commit.specs.declared.fault.PoolFault.{PoolFault}
use Rattle.run_gated.specs.Faults.{fault_kept}
use Rattle.run_gated.specs.declared.fault.RunFault.{RunFault}
use Rattle.run_gated.specs.declared.fault.RunFault.TheVariants.{NotInteresting, Script, Journal, Memory}
use Rattle.run_gated.specs.declared.ran.Reduced.{Reduced}
use Rattle.run_gated.specs.RunEnds.{counts_of_result}

-- what is answered for a reducer that has come to this result, of a start of so many units and bytes,
-- after so many records and this fault, if there was one; without a fault memory may run out
abbrev pub AnswersFor : Option PoolFault → StepResult → ℕ → ℕ → ℕ → Result Reduced RunFault → Type 0
AnswersFor (Some fault) result units bytes records answer = answer ≡ Err (fault_kept fault)
AnswersFor None result units bytes records (Ok reduced) =
    (result.refused ≡ false) × (reduced.text.items ≡ result.text) × (reduced.counts ≡ counts_of_result units bytes result records)
AnswersFor None result units bytes records (Err NotInteresting) = result.refused ≡ true
AnswersFor None result units bytes records (Err (Memory _)) = Unit {0}
AnswersFor None result units bytes records (Err (Script worker)) = ⊥
AnswersFor None result units bytes records (Err Journal) = ⊥
