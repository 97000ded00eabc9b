-- What a run comes to once its journal was opened, and where it wasn't.
use Rattle.std.proofs.Common.{◌≡◌, ◌∙◌, ⊎_elim, ℕ, List, [], Result, Ok, Err, Option, sym, ap, subst}
use Rattle.faults.specs.Count.{Rose}
use Rattle.edge_io.specs.Sink.{Put}
use Rattle.script_gate_trait.specs.declared.gate.Verdict.{Verdict}
use Rattle.verdict_table.specs.TableState.{verdict_in}
use Rattle.worker_pool.specs.RunEnds.{HasWritten}
use Rattle.run_gated.specs.Seen.{AreQuiet, NoneFailed, SeenJournal, fault_counts_of}
use Rattle.run_gated.specs.Run.{Run}
use Rattle.run_gated.specs.RunEnds.{IsSound, IsWrittenWhole, JournalHas}
use Rattle.run_gated.specs.Workers.{HasPartBy}
use Rattle.run_gated.specs.declared.fault.RunFault.{RunFault}
use Rattle.run_gated.specs.declared.fault.RunFault.TheVariants.{Journal, Memory, NotInteresting, Script}
use Rattle.run_gated.specs.declared.ran.Reduced.{Reduced}
use Rattle.reduce_core.specs.Reduction.{Admits}
use Rattle.run_problem.specs.Problem.{Problem}
use Rattle.run_problem.specs.Ends.{IsRunOf, ProblemEnds, RunFails}
use Rattle.run_problem.proofs.Lent.{none_answers, none_of}
use Rattle.command_reduce_calls.specs.Calls.{OpeningFails}
use Rattle.command_reduce_calls.specs.Journal.{JournalBroken, JournalSoFar, JournalWhole, opened_as}
use Rattle.command_reduce.specs.inner.Run.{IsSoundOpened, JournalAfter}

-- of a journal that showed this before it was opened under this name
module _ (name : List ℕ) (run : Run) (earlier : SeenJournal) (opened : run.before.journal.shown ≡ opened_as name earlier.shown)
    (quiet : run.before.journal.faults ≡ earlier.faults) where
  abbrev whole_run : Run
  whole_run = record run { before = record run.before { journal = earlier } }

  none_failed : NoneFailed run.before run.after → NoneFailed whole_run.before whole_run.after
  none_failed none = record { gates = none.gates; journal = none.journal ∙ quiet }

  fails_since : (guard : Admits) (problem : Problem) (fault : RunFault) → RunFails guard problem run fault → RunFails guard problem whole_run fault
  fails_since guard problem NotInteresting why = (why.0, none_failed why.1)
  fails_since guard problem (Script worker) why = (why.0, why.1 ∙ quiet, why.2)
  fails_since guard problem Journal why = (subst (λ (n : ℕ). Rose n run.after.journal.faults) quiet why.0, why.1)
  fails_since guard problem (Memory _) why = (why.0 ∙ quiet, why.1)

  ends_since : (guard : Admits) (problem : Problem) (outcome : Result Reduced RunFault) → ProblemEnds guard problem run outcome
      → ProblemEnds guard problem whole_run outcome
  ends_since guard problem (Ok reduced) ends = (ends.0, none_failed ends.1)
  ends_since guard problem (Err fault) why = fails_since guard problem fault why

  pub run_since : (guard : Admits) (problem : Problem) → IsRunOf guard problem run → IsRunOf guard problem whole_run
  run_since guard problem ran = record { history = ran.history; ends = ends_since guard problem run.outcome ran.ends }

  whole_since : IsWrittenWhole run → JournalWhole name run.start run.history earlier run.after.journal
  whole_since has = record {
    written = subst (λ (put : Option Put). HasWritten run.start run.history put run.after.journal.shown) opened has.0;
    quiet = has.1
        ∙ quiet;
  }

  journal_since : (outcome : Result Reduced RunFault) → JournalHas run outcome
      → JournalAfter run.workers name run.start (verdict_in run.kept) run.history earlier run.after.journal outcome
  journal_since (Ok reduced) has = whole_since has
  journal_since (Err NotInteresting) has = whole_since has
  journal_since (Err (Script worker)) has = whole_since has
  journal_since (Err Journal) has =
      JournalBroken.broke_off
      (subst (λ (put : Option Put). HasPartBy run.workers run.start (verdict_in run.kept) run.history put run.after.journal.shown) opened has.0)
  journal_since (Err (Memory _)) has =
      ⊎_elim (λ written. JournalSoFar.whole (whole_since (written, has.1)))
      (λ nothing. JournalSoFar.empty (record { no_history = nothing.0; opened = nothing.1 ∙ opened; quiet = has.1 ∙ quiet })) has.0

  pub sound_since : (may_say : List ℕ → Verdict → Type 0) → IsSound may_say run → IsSoundOpened name may_say whole_run
  sound_since may_say sound = record {
    answers = record {
      distinct = sound.answers.distinct;
      resumed = sound.answers.resumed;
      said = sound.answers.said;
      asked = sound.answers.asked;
    };
    journal = journal_since run.outcome sound.journal;
  }

-- where it wasn't opened
module _ (run : Run) (fault : RunFault) (none : run.history ≡ []) (out : run.outcome ≡ Err fault) (same : run.after.gates ≡ run.before.gates)
    (kept : run.after.journal.shown ≡ run.before.journal.shown)
    (why : OpeningFails run.before.journal.faults run.after.journal.faults fault) where
  journal_unopened : (name : List ℕ) (fault : RunFault) → OpeningFails run.before.journal.faults run.after.journal.faults fault
      → JournalAfter {A = Reduced} run.workers name run.start (verdict_in run.kept) run.history run.before.journal run.after.journal (Err fault)
  journal_unopened name Journal why = JournalBroken.unopened none kept
  journal_unopened name (Memory _) why = JournalSoFar.untouched (record { no_history = none; same = λ i. record { shown = kept i; faults = why i } })
  journal_unopened name _ why = absurd why

  pub unopened_sound : (name : List ℕ) (may_say : List ℕ → Verdict → Type 0) → IsSoundOpened name may_say run
  unopened_sound name may_say = record {
    answers = none_answers may_say run none same;
    journal =
        subst (JournalAfter run.workers name run.start (verdict_in run.kept) run.history run.before.journal run.after.journal) (sym out)
        (journal_unopened name fault why);
  }

  quiet_gates : AreQuiet run.before.gates run.after.gates
  quiet_gates = ap fault_counts_of same

  fails_unopened : (guard : Admits) (problem : Problem) (fault : RunFault) → OpeningFails run.before.journal.faults run.after.journal.faults fault
      → RunFails guard problem run fault
  fails_unopened guard problem Journal why = (why, λ _. quiet_gates)
  fails_unopened guard problem (Memory _) why = (why, λ _. quiet_gates)
  fails_unopened guard problem _ why = absurd why

  pub unopened_run : (guard : Admits) (problem : Problem) → IsRunOf guard problem run
  unopened_run guard problem = record {
    history = none_of run.workers (verdict_in run.kept) guard problem run.history none;
    ends = subst (ProblemEnds guard problem run) (sym out) (fails_unopened guard problem fault why);
  }
