-- How a run ends, by the fault that ended it, if one did.
use Rattle.std.specs.Prelude.{◌≡◌, ◌⊎◌, ◌++◌, ◌∷◌, ℕ, List, [], Option, Some, None, IsSome, true, false, option_map, take}
use Rattle.faults.specs.Count.{Rose}
use Rattle.edge_io.specs.Sink.{Put, with_piece}
use Rattle.script_gate_trait.specs.declared.gate.Verdict.{Verdict}
use Rattle.verdict_table.specs.declared.record.Record.{Record}
use Rattle.reduce_step.specs.Plan.{HasEnded, Plan, asked, follow}
use Rattle.verdict_table.specs.TableState.{verdict_in}
use Rattle.reduce_journal.specs.declared.event.Event.TheVariants.{Recorded, Committed}
use Rattle.reduce_journal.specs.History.{History, records_of}
use Rattle.reduce_journal.specs.Journal.{event_text, journal_text}
use Rattle.reduce_journal.specs.declared.digest.Digest.{Digest}
use Rattle.ordered_commit.specs.Moves.{KeptVerdicts}
use Rattle.ordered_commit.specs.Replay.{record_at}
use Rattle.ordered_commit.specs.declared.fault.PoolFault.{PoolFault}
use Rattle.ordered_commit.specs.declared.fault.PoolFault.TheVariants.{Script, Journal, Memory}

-- Without a fault the reducer has ended, where its records lead it. Where the gate failed it asks a text that has no record.
abbrev pub ReducerEnds : Option PoolFault → Plan → Plan → List Record → Type 0
ReducerEnds None first plan records = HasEnded plan × (plan ≡ follow (verdict_in records) first)
ReducerEnds (Some (Script worker)) first plan records = IsSome (asked (follow (verdict_in records) first))
ReducerEnds (Some Journal) first plan records = Unit {0}
ReducerEnds (Some (Memory _)) first plan records = Unit {0}

-- A call of the gate failed, a put into the journal, or neither did: the counts before and after, of the gate and of the journal.
abbrev pub IsCaused : Option PoolFault → ℕ → ℕ → ℕ → ℕ → Type 0
IsCaused None gate gate' journal journal' = (gate' ≡ gate) × (journal' ≡ journal)
IsCaused (Some (Script worker)) gate gate' journal journal' = (worker ≡ 1) × Rose gate gate' × (journal' ≡ journal)
IsCaused (Some Journal) gate gate' journal journal' = (gate' ≡ gate) × Rose journal journal'
IsCaused (Some (Memory _)) gate gate' journal journal' = (gate' ≡ gate) × (journal' ≡ journal)

-- the journal's bytes are those of the history, after what was put before, where that is visible
abbrev pub HasWritten : Digest → History → Option Put → Option Put → Type 0
HasWritten start history old new = new ≡ option_map (with_piece (journal_text start history)) old

-- nothing was written, and there is no history
abbrev pub HasNothing : History → Option Put → Option Put → Type 0
HasNothing history old new = (history ≡ []) × (new ≡ old)

-- the name is the one that it had
abbrev pub HasSameName : Option Put → Option Put → Type 0
HasSameName old new = option_map (λ put. put.name) new ≡ option_map (λ put. put.name) old

-- A put of the last record failed, which was asked: the events before it are written, and a part of it.
pub record BrokeInRecord (start : Digest) (history : History) (bytes : List ℕ) : Type 0 where
  pub before : History
  pub text : List ℕ
  pub verdict : Verdict
  pub last : history ≡ before ++ Recorded text verdict false ∷ []
  pub part : ℕ
  pub written : bytes ≡ journal_text start before ++ take part (event_text (Recorded text verdict false))

-- The put of a commit failed, which isn't made then: the whole history is written, and a part of that commit.
pub record BrokeInCommit (start : Digest) (history : History) (bytes : List ℕ) : Type 0 where
  pub number : ℕ
  pub of_record : IsSome (record_at number (records_of history))
  pub part : ℕ
  pub written : bytes ≡ journal_text start history ++ take part (event_text (Committed number))

-- The put of a kept record failed, which isn't made then: the whole history is written, and a part of that record.
pub record BrokeInRecall (start : Digest) (kept : KeptVerdicts) (history : History) (bytes : List ℕ) : Type 0 where
  pub text : List ℕ
  pub verdict : Verdict
  pub is_kept : kept text ≡ Some verdict
  pub part : ℕ
  pub written : bytes ≡ journal_text start history ++ take part (event_text (Recorded text verdict true))

-- it broke off in the last record, or in a commit or a kept record that would come next
abbrev pub BrokeAtEnd : Digest → KeptVerdicts → History → List ℕ → Type 0
BrokeAtEnd start kept history bytes = BrokeInRecord start history bytes ⊎ BrokeInCommit start history bytes ⊎ BrokeInRecall start kept history bytes
