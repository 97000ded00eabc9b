-- Which records a reducer has asked.
use Rattle.std.specs.Prelude.{◌≡◌, ℕ, suc, List, Bool, true, Option, Some, None, slice_get}
use Rattle.script_gate_trait.specs.declared.gate.Verdict.{Verdict}
use Rattle.verdict_table.specs.declared.record.Record.{Record}
use Rattle.verdict_table.specs.TableState.{verdict_in}
use Rattle.reduce_step.specs.Plan.{MayAsk, Plan}
use Rattle.ordered_commit.specs.Replay.{record_at}

-- What was found of what is asked: its record, by its number, and the verdict, which the records have on it; or nothing is asked, or a text without record.
abbrev pub IsRecordOf : Option (List ℕ) → List Record → Option (ℕ × Verdict) → Type 0
IsRecordOf asks records None = (text : List ℕ) → asks ≡ Some text → verdict_in records text ≡ None
IsRecordOf asks records (Some found) =
    (text : List ℕ) × (asks ≡ Some text) × (record_at found.0 records ≡ Some (record { text = text; verdict = found.1 }))
    × (verdict_in records text ≡ Some found.1)

-- What may be asked from a plan on a new reducer may ask, and so it may the text of each of these records that is marked.
pub record MarkedMayBeAsked (first plan : Plan) (records : List Record) (marks : List Bool) : Type 0 where
  pub still_may : (text : List ℕ) → MayAsk plan text → MayAsk first text
  pub marked : (index : ℕ) (r : Record) → slice_get marks index ≡ Some true → record_at (suc index) records ≡ Some r → MayAsk first r.text
