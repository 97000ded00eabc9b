-- What was recorded and committed, in its order, and where it leads a reducer.
use Rattle.std.specs.Prelude.{◌≡◌, ℕ, zero, suc, true, false, List, [], ◌∷◌, ◌++◌, Option, Some, None}
use Rattle.std.specs.List.{IsDistinct}
use Rattle.std.specs.Str.{bytes_eq}
use Rattle.script_gate_trait.specs.declared.gate.Verdict.{Verdict}
use Rattle.verdict_table.specs.declared.record.Record.{Record}
use Rattle.reduce_step.specs.Plan.{Plan, after, asked}
use Rattle.verdict_table.specs.TableState.{texts_of}
use Rattle.reduce_journal.specs.History.{History, records_of}
use Rattle.reduce_journal.specs.declared.event.Event.{Event}
use Rattle.reduce_journal.specs.declared.event.Event.TheVariants.{Recorded, Committed}

-- the record of this number, from 1
abbrev pub record_at : ℕ → List Record → Option Record
record_at zero records = None
record_at (suc index) [] = None
record_at (suc zero) (r ∷ records) = Some r
record_at (suc (suc index)) (r ∷ records) = record_at (suc index) records

-- a reducer answered with this record, if there is one
abbrev pub answered : Option Record → Plan → Plan
answered None plan = plan
answered (Some r) plan = after plan r.verdict

-- after the commits of a history, whose earlier records are these: each answers the reducer with the record that it names
abbrev pub replay_from : List Record → Plan → History → Plan
replay_from earlier plan [] = plan
replay_from earlier plan (Recorded text verdict kept ∷ history) = replay_from (earlier ++ record { text = text; verdict = verdict } ∷ []) plan history
replay_from earlier plan (Committed number ∷ history) = replay_from earlier (answered (record_at number earlier) plan) history

-- where a history leads a new reducer
abbrev pub replay : Plan → History → Plan
replay first history = replay_from [] first history

-- Each commit names an earlier record, with the text that the reducer asks then.
abbrev pub CommitsWhatIsAsked : List Record → Plan → History → Type 0
CommitsWhatIsAsked earlier plan [] = Unit {0}
CommitsWhatIsAsked earlier plan (Recorded text verdict kept ∷ history) =
    CommitsWhatIsAsked (earlier ++ record { text = text; verdict = verdict } ∷ []) plan history
CommitsWhatIsAsked earlier plan (Committed number ∷ history) =
    (r : Record) × (record_at number earlier ≡ Some r) × (asked plan ≡ Some r.text) × CommitsWhatIsAsked earlier (after plan r.verdict) history

-- A history that a new reducer can have: its records have distinct texts, and each commit is one of what is asked.
pub record IsLegal (first : Plan) (history : History) : Type 0 where
  pub distinct : IsDistinct bytes_eq (texts_of (records_of history))
  pub commits : CommitsWhatIsAsked [] first history

-- an event that goes with these kept verdicts: a record is kept exactly where its text has one, and then with that one
abbrev pub GoesWith : (List ℕ → Option Verdict) → Event → Type 0
GoesWith kept (Recorded text verdict true) = kept text ≡ Some verdict
GoesWith kept (Recorded text verdict false) = kept text ≡ None
GoesWith kept (Committed number) = Unit {0}

-- each event of a history does
abbrev pub AllGoWith : (List ℕ → Option Verdict) → History → Type 0
AllGoWith kept [] = Unit {0}
AllGoWith kept (event ∷ history) = GoesWith kept event × AllGoWith kept history
