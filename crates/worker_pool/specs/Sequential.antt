-- What one thread does: the history of a reducer that is given one verdict after another.
use Rattle.std.specs.Prelude.{ℕ, suc, List, [], ◌∷◌, ◌++◌, Option, Some, None, is_some, if◌then◌else◌}
use Rattle.std.specs.List.{list_any}
use Rattle.std.specs.Str.{bytes_eq}
use Rattle.script_gate_trait.specs.declared.gate.Verdict.{Verdict}
use Rattle.script_gate_trait.specs.declared.gate.Verdict.TheVariants.{Yes, No}
use Rattle.verdict_table.specs.declared.record.Record.{Record}
use Rattle.reduce_step.specs.Plan.{Plan, End, Ask}
use Rattle.ordered_commit.specs.Moves.{KeptVerdicts}
use Rattle.verdict_table.specs.TableState.{texts_of}
use Rattle.reduce_journal.specs.declared.event.Event.TheVariants.{Recorded, Committed}
use Rattle.reduce_journal.specs.History.{History, records_of}

-- the number of a text's record, from 1; of a text without one, that of the next record
abbrev pub number_for : List Record → List ℕ → ℕ
number_for [] text = 1
number_for (r ∷ records) text = if bytes_eq text r.text then 1 else suc (number_for records text)

-- a text's record, where it has none yet: kept exactly where a verdict is kept for it
abbrev pub new_record : KeptVerdicts → List Record → List ℕ → Verdict → History
new_record kept records text verdict = if list_any (bytes_eq text) (texts_of records) then [] else Recorded text verdict (is_some (kept text)) ∷ []

-- what an answer adds: its commit, and before that its record, where the text has none yet
abbrev pub answer_events : KeptVerdicts → List Record → List ℕ → Verdict → History
answer_events kept records text verdict = new_record kept records text verdict ++ Committed (number_for records text) ∷ []

-- the records then
abbrev pub records_after : KeptVerdicts → List Record → List ℕ → Verdict → List Record
records_after kept records text verdict = records ++ records_of (new_record kept records text verdict)

-- by the verdict, if there is one
abbrev pub by_verdict : Option Verdict → History → History → History
by_verdict None at_yes at_no = []
by_verdict (Some Yes) at_yes at_no = at_yes
by_verdict (Some No) at_yes at_no = at_no

-- the answers that a reducer is given from these verdicts, in order, until it asks nothing, or a text that has none; where there are these records already
abbrev pub sequential_from : (List ℕ → Option Verdict) → KeptVerdicts → List Record → Plan → History
sequential_from V kept records (End result) = []
sequential_from V kept records (Ask text at_yes at_no) = by_verdict (V text)
    (answer_events kept records text Yes ++ sequential_from V kept (records_after kept records text Yes) at_yes)
    (answer_events kept records text No ++ sequential_from V kept (records_after kept records text No) at_no)

-- the history of a new reducer that is answered so, where these verdicts are kept from an earlier run
abbrev pub sequential_history : (List ℕ → Option Verdict) → KeptVerdicts → Plan → History
sequential_history V kept first = sequential_from V kept [] first
