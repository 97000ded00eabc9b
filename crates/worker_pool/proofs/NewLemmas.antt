-- What holds of a new board of one worker, and of its seat.
use Rattle.std.proofs.Common.{◌≡◌, ℕ, List, [], Option, IfSome, refl, sym}
use Rattle.std.specs.List.{IsDistinct}
use Rattle.edge_io.specs.Sink.{Put}
use Rattle.script_gate_trait.specs.declared.log.Log.{Log}
use Rattle.verdict_table.specs.declared.record.Record.{Record}
use Rattle.reduce_step.specs.Plan.{Plan}
use Rattle.reduce_journal.specs.Journal.{journal_text}
use Rattle.reduce_journal.specs.declared.digest.Digest.{Digest}
use Rattle.ordered_commit.specs.Made.{new_board}
use Rattle.ordered_commit.specs.Seats.{new_seat}
use Rattle.worker_pool.specs.inner.UnderWay.{IsFree, IsUnderWay, moment}
use Rattle.worker_pool.proofs.EndLemmas.{none_asked}

module _ {S J : Type 0} (first plan : S → Plan) (put_so_far : J → Option Put) (faults : J → ℕ) (start : Digest) (kept : List Record)
    (front : S) (journal : J) where
  pub new_under_way : (log : Option Log) (gate_faults : ℕ) → first front ≡ plan front → IfSome (put_so_far journal) (λ put. put.bytes ≡ journal_text start [])
      → IsUnderWay (moment first plan put_so_far faults (new_board 1 start kept front journal) log gate_faults)
      (moment first plan put_so_far faults (new_board 1 start kept front journal) log gate_faults) (new_seat 1)
  unfolding IsDistinct
  new_under_way log gate_faults same head = record {
    same_first = refl;
    same_start = refl;
    same_kept = refl;
    only_seat = refl;
    is_first = refl;
    recorded = refl;
    distinct = tt;
    goes_on = λ V known. refl;
    leads_on = λ V known. refl;
    replayed = λ none. sym same;
    waits = tt;
    asked = none_asked log;
    caused = (refl, refl);
    written = head;
    same_name = refl;
  }

  pub new_free : IsFree (new_seat 1) (new_board 1 start kept front journal)
  new_free = record { only_seat = refl; unclaimed = refl; none_open = λ none. refl }
