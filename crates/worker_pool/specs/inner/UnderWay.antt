-- Beside `../UnderWay.antt`: what private functions and proofs need.
use Rattle.std.specs.Prelude.{◌≡◌, ℕ, ◌+◌, ◌*◌, Bool, false, List, [], ◌∷◌, ◌++◌, Option, Some, None, is_some, IfSome, option_map, if◌then◌else◌}
use Rattle.std.specs.List.{IsDistinct}
use Rattle.std.specs.Str.{bytes_eq}
use Rattle.edge_io.specs.Sink.{Put}
use Rattle.script_gate_trait.specs.declared.gate.Verdict.{Verdict}
use Rattle.script_gate_trait.specs.declared.log.Log.{Log}
use Rattle.gate_permits.specs.Permits.{ClaimedText}
use Rattle.verdict_table.specs.declared.record.Record.{Record}
use Rattle.reduce_step.specs.Plan.{Plan, asked, follow, height}
use Rattle.verdict_table.specs.TableState.{Extends, TableState, texts_of, verdict_in}
use Rattle.reduce_journal.specs.History.{History, asked_records_of, records_of}
use Rattle.reduce_journal.specs.declared.digest.Digest.{Digest}
use Rattle.ordered_commit.specs.Moves.{KeptVerdicts}
use Rattle.ordered_commit.specs.Replay.{replay}
use Rattle.ordered_commit.specs.declared.fault.PoolFault.{PoolFault}
use Rattle.ordered_commit.specs.declared.fault.PoolFault.TheVariants.{Script, Journal, Memory}
use Rattle.ordered_commit.specs.declared.seat.Seat.{Seat}
use Rattle.ordered_commit.specs.BoardState.{BoardState, Holds}
use Rattle.worker_pool.specs.Sequential.{sequential_from, sequential_history}
use Rattle.worker_pool.specs.RunHistory.{with_all_asked}
use Rattle.worker_pool.specs.RunEnds.{IsCaused}
use Rattle.worker_pool.specs.UnderWay.{AreJournalBytes}

-- what is visible of the board and of the gate at one moment
pub record Moment : Type 0 where
  pub first : Plan
  pub start : Digest
  pub kept : KeptVerdicts
  pub plan : Plan
  pub history : History
  pub table : TableState
  pub fault : Option PoolFault
  pub seats : List Seat
  pub put : Option Put
  pub journal_faults : ℕ
  pub log : Option Log
  pub gate_faults : ℕ

-- that of a board, by its members, beside a gate with this log and this count
abbrev pub moment : {S J : Type 0} → (S → Plan) → (S → Plan) → (J → Option Put) → (J → ℕ) → BoardState S J → Option Log → ℕ → Moment
moment first plan put_so_far faults state log gate_faults = record {
  first = first state.front;
  start = state.start;
  kept = verdict_in state.kept;
  plan = plan state.front;
  history = state.history;
  table = state.table;
  fault = state.fault;
  seats = state.seats;
  put = put_so_far state.journal;
  journal_faults = faults state.journal;
  log = log;
  gate_faults = gate_faults;
}

-- the history goes on as one thread does, over all verdicts that have its records
abbrev pub GoesOn : KeptVerdicts → Plan → History → Type 0
GoesOn kept first history = (V : List ℕ → Option Verdict) → Extends V (records_of history)
    → sequential_history V kept first ≡ history ++ sequential_from V kept (records_of history) (replay first history)

-- so does the reducer
abbrev pub LeadsOn : Plan → History → Type 0
LeadsOn first history = (V : List ℕ → Option Verdict) → Extends V (records_of history) → follow V first ≡ follow V (replay first history)

-- the reducer asks a text that has no record
abbrev pub IsUnanswered : Plan → List Record → Type 0
IsUnanswered plan records = (text : List ℕ) × (asked plan ≡ Some text) × (verdict_in records text ≡ None)

-- where the gate failed, it does
abbrev pub IsUnansweredAt : Option PoolFault → Plan → List Record → Type 0
IsUnansweredAt None plan records = Unit {0}
IsUnansweredAt (Some (Script worker)) plan records = IsUnanswered plan records
IsUnansweredAt (Some Journal) plan records = Unit {0}
IsUnansweredAt (Some (Memory _)) plan records = Unit {0}

-- What holds between two calls of a run that began at the first of these moments, of the only worker, whose seat this is.
pub record IsUnderWay (start now : Moment) (seat : Seat) : Type 0 where
  pub same_first : now.first ≡ start.first
  pub same_start : now.start ≡ start.start
  pub same_kept : now.kept ≡ start.kept
  pub only_seat : now.seats ≡ seat ∷ []
  pub is_first : seat.worker ≡ 1
  pub recorded : now.table.records ≡ records_of now.history
  pub distinct : IsDistinct bytes_eq (texts_of (records_of now.history))
  pub goes_on : GoesOn start.kept start.first now.history
  pub leads_on : LeadsOn start.first now.history
  pub replayed : now.fault ≡ None → now.plan ≡ replay start.first now.history
  pub waits : IsUnansweredAt now.fault (replay start.first now.history) (records_of now.history)
  pub asked : now.log ≡ option_map (with_all_asked (texts_of (asked_records_of now.history))) start.log
  pub caused : IsCaused now.fault start.gate_faults now.gate_faults start.journal_faults now.journal_faults
  pub written : IfSome now.put (λ put. AreJournalBytes start.start start.kept now.fault now.history put.bytes)
  pub same_name : option_map (λ put. put.name) now.put ≡ option_map (λ put. put.name) start.put

-- It is the only worker, has no claim, and while no fault is kept no claim is open.
pub record IsFree {S J : Type 0} (seat : Seat) (state : BoardState S J) : Type 0 where
  pub only_seat : state.seats ≡ seat ∷ []
  pub unclaimed : seat.claim ≡ None
  pub none_open : state.fault ≡ None → state.table.claims ≡ []

-- It is the only worker, and has claimed the text that the front asks, which has no record and no kept verdict; and no other claim is open.
pub record IsAsking {S J : Type 0} (plan : S → Plan) (permit : ClaimedText) (seat : Seat) (state : BoardState S J) : Type 0 where
  pub unstopped : state.fault ≡ None
  pub only_seat : state.seats ≡ seat ∷ []
  pub claimed : seat.claim ≡ Some permit.claim
  pub only_claim : state.table.claims ≡ record { number = permit.claim; text = permit.text } ∷ []
  pub asks : asked (plan state.front) ≡ Some permit.text
  pub absent : verdict_in (records_of state.history) permit.text ≡ None
  pub unkept : verdict_in state.kept permit.text ≡ None
  pub holds : Holds state permit.claim permit.text

-- what is asked has a record
abbrev pub has_record : List Record → Option (List ℕ) → Bool
has_record records None = false
has_record records (Some text) = is_some (verdict_in records text)

-- how many records and commits may follow: none once a fault is kept
abbrev pub moves_after : Option PoolFault → Plan → List Record → ℕ
moves_after None plan records = 2 * height plan + (if has_record records (asked plan) then 1 else 2)
moves_after (Some fault) plan records = 0

abbrev pub moves_left : {S J : Type 0} → (S → Plan) → BoardState S J → ℕ
moves_left plan state = moves_after state.fault (plan state.front) (records_of state.history)
