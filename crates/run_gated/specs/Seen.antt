-- What is visible of the gates of the workers and of the journal at one moment, and what may have become of each since.
use Rattle.std.specs.Prelude.{◌≡◌, ℕ, List, Option, map}
use Rattle.faults.specs.Count.{Rose}
use Rattle.edge_io.specs.Sink.{Put}
use Rattle.script_gate_trait.specs.declared.log.Log.{Log}
use Rattle.worker_pool.specs.declared.worker.Worker.{Worker}
use Rattle.run_gated.specs.Workers.{RoseAt}

-- what an object shows, and how many of its calls failed
pub record Seen (T : Type 0) : Type 0 where
  pub shown : T
  pub faults : ℕ

-- an object by its members
abbrev pub seen : {X T : Type 0} → (X → T) → (X → ℕ) → X → Seen T
seen shown faults x = record { shown = shown x; faults = faults x }

-- a call of the object failed, as its count says, which rises then; or is at its greatest value, where it stays
abbrev pub CallFailed : {T : Type 0} → Seen T → Seen T → Type 0
CallFailed old new = Rose old.faults new.faults

-- no call of the object failed
abbrev pub IsQuiet : {T : Type 0} → Seen T → Seen T → Type 0
IsQuiet old new = new.faults ≡ old.faults

-- the log of a gate, and what was put into the journal, each where it is visible
abbrev pub SeenGate : Type 0
SeenGate = Seen (Option Log)

abbrev pub SeenJournal : Type 0
SeenJournal = Seen (Option Put)

-- the gates of these workers, by their members
abbrev pub seen_gates : {G : Type 0} → (G → Option Log) → (G → ℕ) → List (Worker G) → List SeenGate
seen_gates log faults workers = map (λ w. seen log faults w.gate) workers

-- the logs of gates, and their counts
abbrev pub logs_of : List SeenGate → List (Option Log)
logs_of gates = map (λ (gate : SeenGate). gate.shown) gates

abbrev pub fault_counts_of : List SeenGate → List ℕ
fault_counts_of gates = map (λ (gate : SeenGate). gate.faults) gates

-- a call failed of the gate of the worker of this number, from 1, as its count says
abbrev pub GateFailed : ℕ → List SeenGate → List SeenGate → Type 0
GateFailed worker old new = RoseAt worker (fault_counts_of old) (fault_counts_of new)

-- no call of a gate failed
abbrev pub AreQuiet : List SeenGate → List SeenGate → Type 0
AreQuiet old new = fault_counts_of new ≡ fault_counts_of old

-- What a run reaches: the gates of its workers, in the order of their numbers, and the journal.
pub record Reached : Type 0 where
  pub gates : List SeenGate
  pub journal : SeenJournal

-- these, by their members
abbrev pub reached : {G J : Type 0} → (G → Option Log) → (G → ℕ) → (J → Option Put) → (J → ℕ) → List (Worker G) → J → Reached
reached log faults put_so_far journal_faults workers journal =
    record { gates = seen_gates log faults workers; journal = seen put_so_far journal_faults journal }

-- no call of these failed
pub record NoneFailed (old new : Reached) : Type 0 where
  pub gates : AreQuiet old.gates new.gates
  pub journal : IsQuiet old.journal new.journal
