-- How a recall ends.
use Rattle.std.specs.Prelude.{◌≡◌, ◌∷◌, ◌++◌, [], Bool, true, false, Option, Some, Result, Ok, Err}
use Rattle.edge_io.specs.Sink.{Put}
use Rattle.reduce_step.specs.Plan.{Plan, asked}
use Rattle.verdict_table.specs.declared.record.Record.{Record}
use Rattle.verdict_table.specs.TableState.{TableState, claim_count, verdict_in}
use Rattle.reduce_journal.specs.declared.event.Event.{Event}
use Rattle.reduce_journal.specs.declared.event.Event.TheVariants.{Recorded}
use Rattle.ordered_commit.specs.Moves.{Recalls, kept_of}
use Rattle.ordered_commit.specs.declared.fault.PoolFault.TheVariants.{Journal as JournalFault, Memory as MemoryFault}
use Rattle.ordered_commit.specs.declared.fault.BoardFault.{BoardFault}
use Rattle.ordered_commit.specs.declared.fault.BoardFault.TheVariants.{Journal, Memory}
use Rattle.ordered_commit.specs.Writes.{IsPartlyWritten, IsWritten}
use Rattle.ordered_commit.specs.BoardState.{BoardState, CanRecall, Makes}

-- the event of a kept record
abbrev pub kept_event : Record → Event
kept_event r = Recorded r.text r.verdict true

-- the table with this record, under a number that no claim had
abbrev pub with_kept_record : Record → TableState → TableState
with_kept_record r table = record table { records = table.records ++ r ∷ []; filled = table.filled ++ claim_count table ∷ [] }

-- the kept verdict on the text that the front asks was recorded, and the event was written; nothing else changed
pub record IsRecalled {S J : Type 0} (plan : S → Plan) (put_so_far : J → Option Put) (old new : BoardState S J) : Type 0 where
  pub kept : Record
  pub could : CanRecall plan old
  pub found : kept_of (verdict_in old.kept) (asked (plan old.front)) ≡ Some kept
  pub moved : Makes plan Recalls old new
  pub written : IsWritten put_so_far (kept_event kept) old.journal new.journal
  pub else_same : new ≡ record old {
    table = with_kept_record kept old.table;
    history = old.history ++ kept_event kept ∷ [];
    journal = new.journal;
  }

-- the event wasn't put whole: all else is as before, but for the fault
pub record IsUnrecalled {S J : Type 0} (plan : S → Plan) (put_so_far : J → Option Put) (old new : BoardState S J) : Type 0 where
  pub kept : Record
  pub could : CanRecall plan old
  pub found : kept_of (verdict_in old.kept) (asked (plan old.front)) ≡ Some kept
  pub part : IsPartlyWritten put_so_far (kept_event kept) old.journal new.journal
  pub else_same : new ≡ record old { journal = new.journal; fault = Some JournalFault }

-- False exactly where nothing can be recalled. Out of memory leaves all as it was, but for the fault.
abbrev pub RecallEnds : {S J : Type 0} → (S → Plan) → (J → Option Put) → Result Bool BoardFault → BoardState S J → BoardState S J → Type 0
RecallEnds plan put_so_far (Ok true) old new = IsRecalled plan put_so_far old new
RecallEnds plan put_so_far (Ok false) old new = (¬ CanRecall plan old) × (new ≡ old)
RecallEnds plan put_so_far (Err Journal) old new = IsUnrecalled plan put_so_far old new
RecallEnds plan put_so_far (Err (Memory memory)) old new = CanRecall plan old × (new ≡ record old { fault = Some (MemoryFault memory) })
