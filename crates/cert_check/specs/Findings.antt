-- What is found in the files of a run, its output and its journal. They are those of a finished run, or there is a first cause why not.
use Rattle.std.specs.Prelude.{◌≡◌, ◌≢◌, ◌<◌, ◌≤◌, ℕ, List, [], All, Option, Some, None, true, length, take, ◌==◌, if◌then◌else◌}
use Rattle.verdict_table.specs.declared.record.Record.{Record}
use Rattle.verdict_table.specs.TableState.{verdict_in}
use Rattle.reduce_step.specs.Plan.{Plan}
use Rattle.reduce_core.specs.Reduction.{Admits}
use Rattle.reduce_journal.specs.declared.digest.Digest.{Digest}
use Rattle.reduce_journal.specs.declared.head.Head.{Head}
use Rattle.reduce_journal.specs.declared.head.Head.TheVariants.{Version1, Version2}
use Rattle.reduce_journal.specs.declared.read.Journal.{Journal}
use Rattle.reduce_journal.specs.History.{History, records_of}
use Rattle.reduce_journal.specs.Journal.{IsDigestOf}
use Rattle.reduce_rounds.specs.Verdicts.{HasVerdicts}
use Rattle.ordered_commit.specs.Replay.{IsLegal, record_at}
use Rattle.run_problem.specs.Problem.{IsCandidateOf, Problem, questions_of, reduced_text, refuses, start_text}
use Rattle.run_problem.specs.Reducer.{reducer_of}
use Rattle.cert_check.specs.declared.finding.Finding.{Finding}
use Rattle.cert_check.specs.declared.finding.Finding.TheVariants.{Yes, No}
use Rattle.cert_check.specs.declared.finding.Why.TheVariants.{Torn, OtherStart, NotLegal, NotCandidate, Unfinished, StartIsNo, OtherResult}

-- this digest; without one, bytes that are the digest of no start
abbrev pub digest_in : Option Digest → Digest
digest_in None = record { bytes = [] }
digest_in (Some digest) = digest

-- the head of a journal: with its digest of the start in version 2
abbrev pub head_in : Journal → Head
head_in journal = if journal.version == 2 then Version2 (digest_in journal.start) else Version1

-- in version 2 the head has the digest of this start
abbrev pub IsOfStart : Head → List ℕ → Type 0
IsOfStart Version1 start = Unit {0}
IsOfStart (Version2 digest) start = IsDigestOf start digest

-- The events up to this one, counted from 1, are the shortest beginning of the history that a new reducer can't have.
pub record IsFirstIllegal (first : Plan) (history : History) (event : ℕ) : Type 0 where
  pub there : event ≤ length history
  pub illegal : ¬ IsLegal first (take event history)
  pub shortest : (shorter : ℕ) → shorter < event → IsLegal first (take shorter history)

-- This is the number, from 1, of the first record whose text isn't such.
pub record IsFirstOther (Is : List ℕ → Type 0) (records : List Record) (number : ℕ) : Type 0 where
  pub found : Record
  pub there : record_at number records ≡ Some found
  pub other : ¬ Is found.text
  pub earlier : (before : ℕ) (r : Record) → before < number → record_at before records ≡ Some r → Is r.text

-- The events of a journal with so many torn bytes are whole, it is of the start where this says so, and they are a history that this new reducer can have, and
-- record such texts alone.
pub record IsSoundRun (first : Plan) (Is : List ℕ → Type 0) (OfStart : Type 0) (history : History) (torn : ℕ) : Type 0 where
  pub whole : torn ≡ 0
  pub of_start : OfStart
  pub legal : IsLegal first history
  pub candidates : All (λ r. Is r.text) (records_of history)

-- What is found where this is the new reducer and such texts may be asked. `OfStart` is said of the journal, `IsFinished` of the run, `Refuses` of its start,
-- and `IsResult` of the output. It is the cause why not, where no cause of a line above it holds; or a yes.
module _ (first : Plan) (Is : List ℕ → Type 0) (OfStart IsFinished Refuses IsResult : Type 0) (history : History) (torn : ℕ) where
  abbrev pub IsFoundWith : Finding → Type 0
  IsFoundWith (No (Torn bytes)) = (torn ≡ bytes) × (bytes ≢ 0)
  IsFoundWith (No OtherStart) = (torn ≡ 0) × (¬ OfStart)
  IsFoundWith (No (NotLegal event)) = (torn ≡ 0) × OfStart × IsFirstIllegal first history event
  IsFoundWith (No (NotCandidate number)) = (torn ≡ 0) × OfStart × IsLegal first history × IsFirstOther Is (records_of history) number
  IsFoundWith (No Unfinished) = IsSoundRun first Is OfStart history torn × (¬ IsFinished)
  IsFoundWith (No StartIsNo) = IsSoundRun first Is OfStart history torn × IsFinished × Refuses
  IsFoundWith (No OtherResult) = IsSoundRun first Is OfStart history torn × IsFinished × (¬ Refuses) × (¬ IsResult)
  IsFoundWith Yes = IsSoundRun first Is OfStart history torn × IsFinished × (¬ Refuses) × IsResult

-- ---- of a problem

-- The records have a verdict for each text that the reduction over them asks. Only then is it defined: it takes a text without a record for a no.
abbrev pub IsFinishedRun : Admits → Problem → History → Type 0
IsFinishedRun guard problem history = HasVerdicts (verdict_in (records_of history)) (questions_of guard problem (verdict_in (records_of history)))

-- over the records the start is refused
abbrev pub RefusesStart : Admits → Problem → History → Type 0
RefusesStart guard problem history = refuses guard problem (verdict_in (records_of history)) ≡ true

-- This is the text that the problem is reduced to over the records.
abbrev pub IsItsResult : Admits → Problem → History → List ℕ → Type 0
IsItsResult guard problem history text = text ≡ reduced_text guard problem (verdict_in (records_of history))

-- what is found of the problem's run
abbrev pub IsFound : Admits → Problem → List ℕ → Head → History → ℕ → Finding → Type 0
IsFound guard problem output head history torn =
    IsFoundWith (reducer_of guard problem) (IsCandidateOf guard problem) (IsOfStart head (start_text problem)) (IsFinishedRun guard problem history)
    (RefusesStart guard problem history) (IsItsResult guard problem history output) history torn

-- The files are those of a finished run of the problem: this output, and the head and the history of a journal with so many torn bytes.
abbrev pub IsConfirmed : Admits → Problem → List ℕ → Head → History → ℕ → Type 0
IsConfirmed guard problem output head history torn = IsFound guard problem output head history torn Yes
