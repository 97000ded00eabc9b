-- What the events of a journal have led a reducer to.
use Rattle.std.specs.Prelude.{◌≡◌, List, [], Bool, true, false, length}
use Rattle.verdict_table.specs.declared.found.Found.{Found}
use Rattle.verdict_table.specs.declared.found.Found.TheVariants.{Absent, Claimed, Filled}
use Rattle.verdict_table.specs.TableState.{TableState}
use Rattle.reduce_step.specs.Plan.{Plan}
use Rattle.reduce_journal.specs.History.{History, records_of}
use Rattle.ordered_commit.specs.Replay.{IsLegal, replay}
use Rattle.cert_check.specs.inner.Asked.{MarkedMayBeAsked}

-- nothing was found
abbrev pub is_absent : Found → Bool
is_absent Absent = true
is_absent (Claimed claim) = false
is_absent (Filled claim number verdict) = false

-- The events are a history that this new reducer can have, and lead it to this plan; the table has their
-- records and nothing else; and of each record that is marked the reducer may ask the text.
pub record IsReplayed (first : Plan) (history : History) (plan : Plan) (table : TableState) (marks : List Bool) : Type 0 where
  pub legal : IsLegal first history
  pub plan_is : plan ≡ replay first history
  pub records : table.records ≡ records_of history
  pub closed : table.claims ≡ []
  pub one_each : length marks ≡ length table.records
  pub marked : MarkedMayBeAsked first plan table.records marks

-- where this says that the reducer can have the history, it has been replayed; else it can't
abbrev pub IsTaken : Bool → Plan → History → Plan → TableState → List Bool → Type 0
IsTaken true first history plan table marks = IsReplayed first history plan table marks
IsTaken false first history plan table marks = ¬ IsLegal first history
