-- What names one run, and what is of it.
use Rattle.std.specs.Prelude.{ℕ, List, Option, option_map}
use Rattle.edge_io.specs.Sink.{Put}
use Rattle.reduce_step.specs.Plan.{Plan}
use Rattle.verdict_table.specs.declared.record.Record.{Record}
use Rattle.reduce_journal.specs.declared.digest.Digest.{Digest}
use Rattle.ordered_commit.specs.BoardState.{BoardState}

-- the reducer as it was made, the digest of the start and the verdicts that are kept from an earlier run, the journal's name where it is visible, how many
-- workers there are, and the journal's count of faults at the beginning
pub record RunMembers : Type 0 where
  pub first : Plan
  pub start : Digest
  pub kept : List Record
  pub name : Option (List ℕ)
  pub workers : ℕ
  pub faults : ℕ

-- the members of the run of a board that was just made
abbrev pub members : {S J : Type 0} → (S → Plan) → (J → Option Put) → (J → ℕ) → ℕ → BoardState S J → RunMembers
members first put_so_far faults workers state = record {
  first = first state.front;
  start = state.start;
  kept = state.kept;
  name = option_map (λ put. put.name) (put_so_far state.journal);
  workers = workers;
  faults = faults state.journal;
}
