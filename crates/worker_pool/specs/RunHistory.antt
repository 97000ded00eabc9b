-- What the history and the records of a run are, whatever ended it.
use Rattle.std.specs.Prelude.{◌≡◌, ℕ, List, [], ◌∷◌, ◌++◌, All, Option, Some, None}
use Rattle.script_gate_trait.specs.declared.gate.Verdict.{Verdict}
use Rattle.script_gate_trait.specs.declared.log.Log.{Log}
use Rattle.verdict_table.specs.declared.record.Record.{Record}
use Rattle.reduce_step.specs.Plan.{HasEnded, MayAsk, Plan, after, asked}
use Rattle.verdict_table.specs.TableState.{verdict_in}
use Rattle.reduce_journal.specs.History.{History, IsHistory, asked_records_of, records_of}
use Rattle.ordered_commit.specs.Moves.{KeptVerdicts}
use Rattle.ordered_commit.specs.Replay.{AllGoWith, IsLegal}
use Rattle.ordered_commit.specs.declared.fault.PoolFault.{PoolFault}
use Rattle.ordered_commit.specs.declared.fault.PoolFault.TheVariants.{Script, Journal, Memory}
use Rattle.worker_pool.specs.Sequential.{sequential_history}

-- The history is one that this reducer can have with these kept verdicts, and that can be read back; the verdict of each record that isn't kept is one that the
-- gate may say of its text; and the reducer may ask each text.
pub record IsHistoryOf (may_say : List ℕ → Verdict → Type 0) (kept : KeptVerdicts) (first : Plan) (history : History) : Type 0 where
  pub legal : IsLegal first history
  pub readable : IsHistory history
  pub go_with : AllGoWith kept history
  pub said : All (λ r. may_say r.text r.verdict) (asked_records_of history)
  pub may_ask : All (λ r. MayAsk first r.text) (records_of history)

-- this is the beginning of the whole history
abbrev pub IsBeginning : History → History → Type 0
IsBeginning history whole = (later : History) × (whole ≡ history ++ later)

-- over its own records, with these kept verdicts
abbrev pub own_history : KeptVerdicts → Plan → History → History
own_history kept first history = sequential_history (verdict_in (records_of history)) kept first

-- The history is what one thread does over its records. Where a journal fault or memory ended the run, it may lack the last commits.
abbrev pub IsSequential : KeptVerdicts → Option PoolFault → Plan → History → Type 0
IsSequential kept None first history = history ≡ own_history kept first history
IsSequential kept (Some (Script worker)) first history = history ≡ own_history kept first history
IsSequential kept (Some Journal) first history = IsBeginning history (own_history kept first history)
IsSequential kept (Some (Memory _)) first history = IsBeginning history (own_history kept first history)

-- the first record is of the text that the reducer asks first
abbrev pub BeginsWith : Plan → List Record → Type 0
BeginsWith first [] = Unit {0}
BeginsWith first (r ∷ records) = asked first ≡ Some r.text

-- a first answer that ends the reducer is the only record
abbrev pub EndsAtFirst : Plan → List Record → Type 0
EndsAtFirst first [] = Unit {0}
EndsAtFirst first (r ∷ records) = HasEnded (after first r.verdict) → records ≡ []

-- these asks more
abbrev pub with_all_asked : List (List ℕ) → Log → Log
with_all_asked texts log = record log { asked = log.asked ++ texts }
