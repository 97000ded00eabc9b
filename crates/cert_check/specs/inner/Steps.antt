-- What is found of a reducer's run, in the words of its plan.
use Rattle.std.specs.Prelude.{◌≡◌, ℕ, List, true}
use Rattle.verdict_table.specs.TableState.{verdict_in}
use Rattle.reduce_step.specs.Plan.{End, HasEnded, Plan, StepResult, follow}
use Rattle.reduce_journal.specs.History.{History, records_of}
use Rattle.cert_check.specs.declared.finding.Finding.{Finding}
use Rattle.cert_check.specs.Findings.{IsFoundWith}

-- followed over the records, the plan ends so
abbrev pub EndsSo : Plan → History → (StepResult → Type 0) → Type 0
EndsSo first history Is = (end : StepResult) × (follow (verdict_in (records_of history)) first ≡ End end) × Is end

-- what is found of the run of a new reducer whose journal is of its start, where these are the texts that may be asked
abbrev pub IsFindingOfPlan : Plan → (List ℕ → Type 0) → List ℕ → History → ℕ → Finding → Type 0
IsFindingOfPlan first Is output history torn =
    IsFoundWith first Is (Unit {0}) (HasEnded (follow (verdict_in (records_of history)) first)) (EndsSo first history (λ end. end.refused ≡ true))
    (EndsSo first history (λ end. output ≡ end.text)) history torn

-- what is found where the events are whole and any text may be asked
abbrev pub IsFindingOfEnd : Plan → List ℕ → History → Finding → Type 0
IsFindingOfEnd first output history = IsFindingOfPlan first (λ text. Unit {0}) output history 0
