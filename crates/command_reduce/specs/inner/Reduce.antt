-- Beside `../Reduce.antt`: what private functions and proofs need.
use Rattle.std.specs.Prelude.{◌≡◌, ℕ, drop, List, [], MatchResult, Result}
use Rattle.std.specs.Global.{Vec}
use Rattle.script_gate_trait.specs.declared.gate.Verdict.{Verdict}
use Rattle.reduce_journal.specs.History.{History}
use Rattle.run_gated.specs.declared.known.Known.{Known}
use Rattle.command_ends.specs.declared.status.Refusal.{Refusal}
use Rattle.command_ends.specs.Status.{line_of, status_of}
use Rattle.command_words.specs.Commands.{ReduceOptions}
use Rattle.command_ends.specs.World.{logs_of, PutsLine, SeenCalls, SeenFiles, SeenGate, SeenJournal, SeenOut, World}
use Rattle.command_reduce.specs.Reduce.{ReduceEnds, WritesReduced, RecordsAreSound, IsHistoryOfInput}

-- What `reduce` reaches, without `out`.
pub record Inside : Type 0 where
  pub files : SeenFiles
  pub calls : SeenCalls
  pub gates : List SeenGate
  pub journal : SeenJournal

-- these, and this `out`
abbrev pub beside : Inside → SeenOut → World
beside inside out = record { files = inside.files; calls = inside.calls; gates = inside.gates; journal = inside.journal; out = out }

-- the run ends with this refusal, whatever becomes of its line
abbrev pub ReduceFails : ReduceOptions → Known → History → Inside → Inside → Refusal → Type 0
ReduceFails options known history old new refusal =
    (out out' : SeenOut) → PutsLine (line_of refusal) out out' → ReduceEnds options known history (beside old out) (beside new out') (status_of refusal)

-- the run comes to this report, whatever becomes of it
abbrev pub ReduceReports : ReduceOptions → Known → History → Inside → Inside → List ℕ → Type 0
ReduceReports options known history old new report = (out out' : SeenOut) → WritesReduced options known history report (beside old out) (beside new out')

-- the steps of `reduce`, but for what is put on `out`
pub record ReduceSteps (options : ReduceOptions) (may_say : List ℕ → Verdict → Type 0) (history : History) (old new : Inside)
    (outcome : Result (Vec ℕ) Refusal) : Type 0 where
  pub known : Known
  pub sound : RecordsAreSound options may_say known.kept history (logs_of old.gates) (logs_of new.gates) old.journal new.journal
  pub of_input : (out out' : SeenOut) → IsHistoryOfInput options known history (beside old out) (beside new out')
  pub others : drop options.jobs new.gates ≡ drop options.jobs old.gates
  pub ends : MatchResult outcome (λ report. ReduceReports options known history old new report.items)
      (λ refusal. ReduceFails options known history old new refusal)
