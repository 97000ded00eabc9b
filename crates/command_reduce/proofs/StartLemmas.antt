-- Why there is no reduction where a gate wasn't opened.
use Rattle.std.proofs.Common.{◌≡◌, ◌∙◌, ℕ, List, [], Result, Ok, Err, sym, subst}
use Rattle.script_gate_trait.specs.declared.gate.GateFault.{GateFault}
use Rattle.script_gate_trait.specs.declared.gate.GateFault.TheVariants.{Failed as GateFailed, Memory as GateMemory}
use Rattle.verdict_table.specs.TableState.{verdict_in}
use Rattle.run_gated.specs.Faults.{fault_of}
use Rattle.run_gated.specs.Run.{Run}
use Rattle.run_gated.specs.Seen.{AreQuiet, IsQuiet, NoneFailed, SeenGate, fault_counts_of}
use Rattle.run_gated.specs.Workers.{RoseAt}
use Rattle.run_gated.specs.declared.fault.RunFault.{RunFault}
use Rattle.run_gated.specs.declared.fault.RunFault.TheVariants as run_fault
use Rattle.run_gated.specs.declared.ran.Reduced.{Reduced}
use Rattle.reduce_core.specs.Reduction.{Admits}
use Rattle.run_problem.specs.Problem.{Problem}
use Rattle.run_problem.specs.Ends.{IsRunOf, IsUnfinished, ProblemEnds, RunFails}
use Rattle.run_problem.proofs.Lent.{none_of, unfinished_without}
use Rattle.command_reduce_calls.specs.Openings.{OpenFailed}

module _ (guard : Admits) (problem : Problem) (run : Run) (none : run.history ≡ []) (quiet : IsQuiet run.before.journal run.after.journal) where
  -- why a gate wasn't opened is why there is no reduction
  run_open : (worker : ℕ) (fault : GateFault) → OpenFailed fault worker run.before.gates run.after.gates → RunFails guard problem run (fault_of worker fault)
  run_open worker (GateMemory _) why = (quiet, λ _. why)
  run_open worker GateFailed why =
      (why, quiet, λ _. subst (IsUnfinished (verdict_in run.kept) guard problem) (sym none) (unfinished_without (verdict_in run.kept) guard problem))

  -- and that is what is answered
  pub unopened_of : (worker : ℕ) (fault : GateFault) → run.outcome ≡ Err (fault_of worker fault) → OpenFailed fault worker run.before.gates run.after.gates
      → IsRunOf guard problem run
  unopened_of worker fault is why = record {
    history = none_of run.workers (verdict_in run.kept) guard problem run.history none;
    ends = subst (ProblemEnds guard problem run) (sym is) (run_open worker fault why);
  }

-- a run whose gates were opened first is one from before that, by as many workers
module _ (guard : Admits) (problem : Problem) (run : Run) (workers : ℕ) (gates : List SeenGate) (as_many : run.workers ≡ workers)
    (quiet : AreQuiet gates run.before.gates) where
  abbrev begun : ℕ → Run
  begun n = record run { workers = n; before = record run.before { gates = gates } }

  none_failed : NoneFailed run.before run.after → NoneFailed (begun run.workers).before run.after
  none_failed none = record { gates = none.gates ∙ quiet; journal = none.journal }

  fails_since : (fault : RunFault) → RunFails guard problem run fault → RunFails guard problem (begun run.workers) fault
  fails_since run_fault.NotInteresting why = (why.0, none_failed why.1)
  fails_since (run_fault.Script worker) why = (subst (λ (counts : List ℕ). RoseAt worker counts (fault_counts_of run.after.gates)) quiet why.0, why.1, why.2)
  fails_since run_fault.Journal why = (why.0, λ alone. why.1 alone ∙ quiet)
  fails_since (run_fault.Memory _) why = (why.0, λ alone. why.1 alone ∙ quiet)

  ends_since : (outcome : Result Reduced RunFault) → ProblemEnds guard problem run outcome → ProblemEnds guard problem (begun run.workers) outcome
  ends_since (Ok reduced) ends = (ends.0, none_failed ends.1)
  ends_since (Err fault) why = fails_since fault why

  pub started_of : IsRunOf guard problem run → IsRunOf guard problem (begun workers)
  started_of ran = subst (λ (n : ℕ). IsRunOf guard problem (begun n)) as_many (record { history = ran.history; ends = ends_since run.outcome ran.ends })
