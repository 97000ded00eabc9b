-- Beside `../RecallEnds.antt`: what private functions and proofs need.
use Rattle.std.specs.Prelude.{◌≡◌, ◌∷◌, ◌++◌, [], Option, Some, None, Result, Ok, Err, if◌then◌else◌}
use Rattle.edge_io.specs.Sink.{Put}
use Rattle.verdict_table.specs.declared.record.Record.{Record}
use Rattle.verdict_table.specs.TableState.{TableState}
use Rattle.reduce_journal.specs.History.{History}
use Rattle.ordered_commit.specs.declared.fault.BoardFault.{BoardFault}
use Rattle.ordered_commit.specs.declared.fault.BoardFault.TheVariants.{Journal, Memory}
use Rattle.ordered_commit.specs.inner.Claiming.{is_absent}
use Rattle.ordered_commit.specs.Writes.{IsPartlyWritten, IsWritten}
use Rattle.ordered_commit.specs.RecallEnds.{with_kept_record, kept_event}

-- the record, where the table doesn't hold its text
abbrev pub recall_of : TableState → Option Record → Option Record
recall_of table None = None
recall_of table (Some r) = if is_absent table r.text then Some r else None

-- how it ends to claim the text of a kept verdict, to write its record, and to fill the claim and add the event to the history, or to withdraw the claim
abbrev pub RecordsKept : {A J : Type 0} → (J → Option Put) → Result A BoardFault → Record → TableState → TableState → History → History → J → J → Type 0
RecordsKept put_so_far (Ok done) kept table table_after history history_after old new =
    (table_after ≡ with_kept_record kept table) × (history_after ≡ history ++ kept_event kept ∷ []) × IsWritten put_so_far (kept_event kept) old new
RecordsKept put_so_far (Err Journal) kept table table_after history history_after old new =
    (table_after ≡ table) × (history_after ≡ history) × IsPartlyWritten put_so_far (kept_event kept) old new
RecordsKept put_so_far (Err (Memory _)) kept table table_after history history_after old new =
    (table_after ≡ table) × (history_after ≡ history) × (new ≡ old)
