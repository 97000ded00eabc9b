-- At which statuses the gates and the journal weren't reached.
use Rattle.std.proofs.Common.{ℕ, List, Result, Ok, Err, IfErr, MatchResult, sym, ap, subst, ⊎_elim}
use Rattle.std.proofs.lemmas.Bool.{false≢true}
use Rattle.std.specs.Global.{Vec}
use Rattle.run_gated.specs.declared.fault.RunFault.{RunFault}
use Rattle.run_gated.specs.declared.fault.RunFault.TheVariants as run_fault
use Rattle.run_gated.specs.declared.ran.Reduced.{Reduced}
use Rattle.command_ends.specs.declared.status.Refusal.{Refusal}
use Rattle.command_ends.specs.declared.status.Refusal.TheVariants.{Memory, CannotWrite}
use Rattle.command_ends.specs.Status.{EndsRefused, EndsWithAnswer, ending_of_run, status_of}
use Rattle.command_ends.specs.World.{SeenFiles, SeenOut}
use Rattle.command_reduce.specs.Reduce.{EndsBeforeTheRun}
use Rattle.command_reduce_calls.specs.Calls.{WriteEnds}

-- a run ends with another status
fault_late : (fault : RunFault) → EndsBeforeTheRun (ending_of_run fault).0 → ⊥
fault_late run_fault.NotInteresting early = false≢true early
fault_late (run_fault.Script worker) early = false≢true early
fault_late run_fault.Journal early = false≢true early
fault_late (run_fault.Memory _) early = false≢true early

pub late : (X : Type 0) (name : List ℕ) (old new : SeenFiles) (ran : Result Reduced RunFault) (outcome : Result (Vec ℕ) Refusal)
    → WriteEnds name old new ran outcome → IfErr outcome (λ refusal. EndsBeforeTheRun (status_of refusal) → X)
late X name old new (Err fault) outcome ends =
    subst (λ (o : Result (Vec ℕ) Refusal). IfErr o (λ refusal. EndsBeforeTheRun (status_of refusal) → X)) (sym ends.0.1)
    (λ early. absurd (fault_late fault (subst EndsBeforeTheRun (ap (λ (ending : ℕ × List ℕ). ending.0) ends.0.2) early)))
late X name old new (Ok reduced) (Ok report) ends = tt
late X name old new (Ok reduced) (Err (Memory _)) ends = λ early. absurd (false≢true early)
late X name old new (Ok reduced) (Err CannotWrite) ends = λ early. absurd (false≢true early)
late X name old new (Ok reduced) (Err _) ends = absurd ends

-- the status is that of the refusal, or of an answer
pub early_end : (X : Type 0) (out out' : SeenOut) (status : ℕ) (outcome : Result (Vec ℕ) Refusal)
    → MatchResult outcome (λ report. EndsWithAnswer report.items out out' status) (λ refusal. EndsRefused out out' status refusal)
    → IfErr outcome (λ refusal. EndsBeforeTheRun (status_of refusal) → X) → EndsBeforeTheRun status → X
early_end X out out' status (Ok report) ends then early =
    ⊎_elim (λ all. absurd (false≢true (subst EndsBeforeTheRun all.0 early))) (λ part. absurd (false≢true (subst EndsBeforeTheRun part.0 early))) ends
early_end X out out' status (Err refusal) ends then early = then (subst EndsBeforeTheRun ends.status_is early)
