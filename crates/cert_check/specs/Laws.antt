-- What a finding says, and which runs are confirmed.
use Rattle.std.specs.Prelude.{◌≡◌, ℕ, List, All, true, Option}
use Rattle.std.specs.List.{IsDistinct}
use Rattle.std.specs.Str.{bytes_eq}
use Rattle.script_gate_trait.specs.declared.gate.Verdict.{Verdict}
use Rattle.script_gate_trait.specs.declared.gate.Verdict.TheVariants as verdict
use Rattle.reduce_core.specs.Lines.{numbered_lines, numbers_of}
use Rattle.reduce_core.specs.Reduction.{Admits}
use Rattle.reduce_trees.specs.Ends.{AdmitsStart}
use Rattle.verdict_table.specs.TableState.{Extends, texts_of, verdict_in}
use Rattle.reduce_step.specs.Plan.{MayAsk, Plan, follow}
use Rattle.reduce_rounds.specs.Laws.{IsTheReduction}
use Rattle.reduce_rounds.specs.Verdicts.{HasVerdicts}
use Rattle.reduce_journal.specs.declared.head.Head.{Head}
use Rattle.reduce_journal.specs.History.{History, IsHistory, records_of}
use Rattle.ordered_commit.specs.Replay.{IsLegal, replay}
use Rattle.run_gated.specs.Records.{FirstIs}
use Rattle.run_problem.specs.Committed.{IsPrefix, committed_texts, questions_over}
use Rattle.run_problem.specs.Problem.{IsCandidateOf, IsProblem, IsReductionOf, Problem, recursion_of, reduced_text, start_text}
use Rattle.run_problem.specs.Reducer.{reducer_of}
use Rattle.cert_check.specs.declared.finding.Finding.{Finding}
use Rattle.cert_check.specs.Findings.{IsConfirmed, IsFound, IsOfStart}

-- One thing is found: the files are confirmed, or one cause is the first.
abbrev pub OneIsFound : Type 0
OneIsFound = (guard : Admits) (problem : Problem) (output : List ℕ) (head : Head) (history : History) (torn : ℕ) (one other : Finding)
    → IsFound guard problem output head history torn one → IsFound guard problem output head history torn other → one ≡ other

-- This is the history of a run to its end, by however many workers, and its output. The history can be read back, and its commits answer what the reduction
-- asks. It records candidates, each once, and first the start, with a yes. It has a verdict for each text that the reduction asks, whose text is the output.
pub record IsRunTo (guard : Admits) (problem : Problem) (history : History) (output : List ℕ) : Type 0 where
  pub is_problem : IsProblem problem
  pub readable : IsHistory history
  pub legal : IsPrefix (committed_texts history) (questions_over guard problem history)
  pub distinct : IsDistinct bytes_eq (texts_of (records_of history))
  pub candidates : All (λ r. IsCandidateOf guard problem r.text) (records_of history)
  pub start_yes : FirstIs (start_text problem) verdict.Yes (records_of history)
  pub defined : HasVerdicts (verdict_in (records_of history)) (questions_over guard problem history)
  pub is_text : output ≡ reduced_text guard problem (verdict_in (records_of history))

-- The files of such a run are confirmed, where the head is of its start.
abbrev pub FinishedRunsAreConfirmed : Type 0
FinishedRunsAreConfirmed =
    (guard : Admits) (problem : Problem) (head : Head) (history : History) (output : List ℕ) → IsOfStart head (start_text problem)
    → IsRunTo guard problem history output → IsConfirmed guard problem output head history 0

-- The guard of a tree is this one, as that of lines always is.
abbrev pub IsGuardedBy : Admits → Problem → Type 0
IsGuardedBy guard (Problem.of_lines start) = Unit {0}
IsGuardedBy guard (Problem.of_tree mode input) = input.admits ≡ guard
IsGuardedBy guard (Problem.of_respelling mode input) = input.admits ≡ guard

-- The start is admitted with all of its lines or tokens.
abbrev pub IsStartAdmitted : Admits → Problem → Type 0
IsStartAdmitted guard (Problem.of_lines start) = guard (numbers_of (numbered_lines start)) start ≡ true
IsStartAdmitted guard (Problem.of_tree mode input) = AdmitsStart input
IsStartAdmitted guard (Problem.of_respelling mode input) = AdmitsStart input

-- Files that are confirmed hold a reduction over the verdicts of the records, and so a minimal one.
abbrev pub ConfirmedAreReductions : Type 0
ConfirmedAreReductions =
    (guard : Admits) (problem : Problem) (output : List ℕ) (head : Head) (history : History) (torn : ℕ) → IsProblem problem → IsGuardedBy guard problem
    → IsStartAdmitted guard problem → IsConfirmed guard problem output head history torn
    → IsReductionOf guard (verdict_in (records_of history)) problem output

-- To go on from where a history leads comes to the same as to begin anew, over each map of verdicts that has its records.
abbrev pub LegalHistoriesFollow : Type 0
LegalHistoriesFollow =
    (first : Plan) (history : History) → IsLegal first history → (V : List ℕ → Option Verdict) → Extends V (records_of history)
    → follow V first ≡ follow V (replay first history)

-- What the reducer of a problem does, followed over a map of verdicts, is its reduction.
abbrev pub ReducersAreReductions : Type 0
ReducersAreReductions =
    (guard : Admits) (problem : Problem) → IsProblem problem → (V : List ℕ → Option Verdict)
    → IsTheReduction (reducer_of guard problem) (recursion_of guard problem) V

-- What the reducer of a problem may ask is a candidate, where its start is admitted.
abbrev pub ReducersAskCandidates : Type 0
ReducersAskCandidates = (guard : Admits) (problem : Problem) → IsProblem problem → IsStartAdmitted guard problem
    → (text : List ℕ) → MayAsk (reducer_of guard problem) text → IsCandidateOf guard problem text
