-- The core of a run of several workers: what they claim, record, recall and commit, in any order.
use Rattle.std.specs.Prelude.{◌≡◌, ◌≤◌, ◌<◌, ◌*◌, ◌++◌, ◌==◌, ◌||◌, ℕ, Bool, true, false, is_some, not, List, []}
use Rattle.std.specs.Prelude.{◌∷◌, Option, Some, None, IsSome, find, filter, map, option_map}
use Rattle.std.specs.List.{list_any}
use Rattle.std.specs.Str.{bytes_eq}
use Rattle.script_gate_trait.specs.declared.gate.Verdict.{Verdict}
use Rattle.verdict_table.specs.declared.record.Record.{Record}
use Rattle.reduce_step.specs.Plan.{Plan, asked}
use Rattle.reduce_step.specs.Ahead.{ahead}
use Rattle.verdict_table.specs.TableState.{texts_of}
use Rattle.reduce_journal.specs.declared.event.Event.{Event}
use Rattle.reduce_journal.specs.declared.event.Event.TheVariants.{Recorded, Committed}
use Rattle.reduce_journal.specs.History.{History, records_of}
use Rattle.ordered_commit.specs.Replay.{answered, record_at}

-- a text that a worker has claimed, and whose verdict is still to come
pub record OpenClaim : Type 0 where
  pub worker : ℕ
  pub text : List ℕ

-- verdicts that are kept from an earlier run, by their texts
abbrev pub KeptVerdicts : Type 0
KeptVerdicts = List ℕ → Option Verdict

-- the front, which is the reducer that is committed to; what was recorded and committed so far; the open claims; and the kept verdicts, which never change
pub record CoreState : Type 0 where
  pub front : Plan
  pub history : History
  pub claims : List OpenClaim
  pub kept : KeptVerdicts

-- What may happen: a worker claims a text, what a worker has claimed gets a verdict, the text that the front asks gets the one that is kept for it, and the
-- front is answered with the record of this number.
pub data Move : Type 0 where
  Claims : ℕ → List ℕ → Move
  Records : ℕ → Verdict → Move
  Recalls : Move
  Commits : ℕ → Move

-- the text that a worker has claimed, if there is one; and the claims of the others
abbrev pub text_of_worker : ℕ → List OpenClaim → Option (List ℕ)
text_of_worker worker claims = option_map (λ c. c.text) (find (λ c. c.worker == worker) claims)

abbrev pub claims_of_others : ℕ → List OpenClaim → List OpenClaim
claims_of_others worker claims = filter (λ c. not (c.worker == worker)) claims

-- the text has a record
abbrev pub is_recorded : CoreState → List ℕ → Bool
is_recorded state text = list_any (bytes_eq text) (texts_of (records_of state.history))

-- the text has a record, an open claim or a kept verdict
abbrev pub is_taken : CoreState → List ℕ → Bool
is_taken state text = (is_recorded state text || list_any (bytes_eq text) (map (λ c. c.text) state.claims)) || is_some (state.kept text)

-- the first text that isn't taken, among those that the front asks next if each answer is no, two for each worker
abbrev pub next_text : ℕ → CoreState → Option (List ℕ)
next_text workers state = find (λ text. not (is_taken state text)) (ahead (2 * workers) state.front)

-- the text that the front asks, and the verdict that is kept for it; none where it asks nothing, or none is kept
abbrev pub kept_record : List ℕ → Verdict → Record
kept_record text verdict = record { text = text; verdict = verdict }

abbrev pub kept_of : KeptVerdicts → Option (List ℕ) → Option Record
kept_of kept None = None
kept_of kept (Some text) = option_map (kept_record text) (kept text)

-- Which moves may be made: a worker claims the next text if it has no claim; it records if it has one; the text that the front asks is recalled if a verdict is
-- kept for it and it has no record; and a record with the text that the front asks may be committed.
abbrev pub MayMake : ℕ → CoreState → Move → Type 0
MayMake workers state (Claims worker text) =
    (0 < worker) × (worker ≤ workers) × (text_of_worker worker state.claims ≡ None) × (next_text workers state ≡ Some text)
MayMake workers state (Records worker verdict) = IsSome (text_of_worker worker state.claims)
MayMake workers state Recalls = (r : Record) × (kept_of state.kept (asked state.front) ≡ Some r) × (is_recorded state r.text ≡ false)
MayMake workers state (Commits number) = (r : Record) × (record_at number (records_of state.history) ≡ Some r) × (asked state.front ≡ Some r.text)

-- what the verdict on a claimed text adds
abbrev pub recorded_as : Option (List ℕ) → Verdict → List Event
recorded_as None verdict = []
recorded_as (Some text) verdict = Recorded text verdict false ∷ []

-- what a kept verdict adds
abbrev pub recalled_as : Option Record → List Event
recalled_as None = []
recalled_as (Some r) = Recorded r.text r.verdict true ∷ []

-- the state after a move
abbrev pub after_move : CoreState → Move → CoreState
after_move state (Claims worker text) = record state { claims = state.claims ++ record { worker = worker; text = text } ∷ [] }
after_move state (Records worker verdict) = record state {
  history = state.history ++ recorded_as (text_of_worker worker state.claims) verdict;
  claims = claims_of_others worker state.claims;
}
after_move state Recalls = record state { history = state.history ++ recalled_as (kept_of state.kept (asked state.front)) }
after_move state (Commits number) = record state {
  front = answered (record_at number (records_of state.history)) state.front;
  history = state.history ++ Committed number ∷ [];
}

-- Each of the moves may be made after those before it.
abbrev pub AreMoves : ℕ → CoreState → List Move → Type 0
AreMoves workers state [] = Unit {0}
AreMoves workers state (move ∷ moves) = MayMake workers state move × AreMoves workers (after_move state move) moves

abbrev pub after_moves : CoreState → List Move → CoreState
after_moves state [] = state
after_moves state (move ∷ moves) = after_moves (after_move state move) moves

-- before the first move
abbrev pub begun : Plan → KeptVerdicts → CoreState
begun first kept = record { front = first; history = []; claims = []; kept = kept }
