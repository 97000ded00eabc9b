-- Beside `../Runs.antt`: what private functions and proofs need.
use Rattle.std.specs.Prelude.{◌≡◌, ◌≢◌, ◌≤◌, ℕ, false, List, [], ◌∷◌, All, Option, Some, None, length, option_map}
use Rattle.faults.specs.Count.{Rose}
use Rattle.edge_io.specs.Sink.{Put}
use Rattle.script_gate_trait.specs.declared.gate.Verdict.TheVariants.{No}
use Rattle.reduce_step.specs.Plan.{End, HasEnded, Plan, after}
use Rattle.verdict_table.specs.declared.record.Record.{Record}
use Rattle.verdict_table.specs.declared.table.Claim.{Claim}
use Rattle.verdict_table.specs.TableState.{TableState}
use Rattle.ordered_commit.specs.declared.fault.PoolFault.TheVariants.{Journal}
use Rattle.ordered_commit.specs.BoardState.{BoardState}
use Rattle.worker_pool.specs.Runs.{RunMembers}

-- members that no run picks
abbrev pub no_run : RunMembers
no_run = record {
  first = End (record { text = []; units = 0; used = 0; rounds = 0; refused = false });
  start = record { bytes = [] };
  kept = [];
  name = None;
  workers = 0;
  faults = 0;
}

-- before the first record at most one text is claimed; after a first record that ends the reducer nothing more is recorded or claimed
abbrev pub StartsAlone : Plan → List Record → List Claim → Type 0
StartsAlone first [] claims = length claims ≤ 1
StartsAlone first (r ∷ records) claims = HasEnded (after first r.verdict) → (records ≡ []) × (claims ≡ [])

-- so it is where the first text's no ends the reducer
abbrev pub AtStart : Plan → TableState → Type 0
AtStart first table = HasEnded (after first No) → StartsAlone first table.records table.claims

-- The board is one of this run.
pub record IsOfRun {S J : Type 0} (first : S → Plan) (put_so_far : J → Option Put) (faults : J → ℕ) (run : RunMembers) (state : BoardState S J) : Type 0 where
  pub same_first : first state.front ≡ run.first
  pub same_digest : state.start ≡ run.start
  pub same_kept : state.kept ≡ run.kept
  pub same_name : option_map (λ put. put.name) (put_so_far state.journal) ≡ run.name
  pub all_seats : length state.seats ≡ run.workers
  pub start : AtStart run.first state.table
  -- while no fault is kept no ask has failed
  pub unfailed : state.fault ≡ None → All (λ s. s.failed ≡ false) state.seats
  -- the journal's count rose exactly where a fault of it is kept
  pub rose : state.fault ≡ Some Journal → Rose run.faults (faults state.journal)
  pub quiet : state.fault ≢ Some Journal → faults state.journal ≡ run.faults
