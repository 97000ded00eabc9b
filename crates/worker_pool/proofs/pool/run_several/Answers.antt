use Rattle.std.proofs.Common.{arith, ◌≡◌, ◌*◌, List, [], Option, None, IfSome, ap, length, map, option_map, refl, slice_index_or, subst, sym, ◌∙◌}
use Rattle.std.proofs.lemmas.List.{length-map}
use Rattle.faults.specs.Count.{Rose}
use Rattle.reduce_step.specs.Ahead.{ahead}
use Rattle.reduce_step.specs.Plan.{HasEnded, Plan, follow}
use Rattle.verdict_table.specs.TableState.{verdict_in}
use Rattle.reduce_journal.specs.History.{History, asked_records_of, records_of}
use Rattle.ordered_commit.specs.Replay.{replay}
use Rattle.ordered_commit.specs.declared.fault.PoolFault.{PoolFault}
use Rattle.ordered_commit.specs.Kept.{BeginsWithin, BrokeWhereDue, IsJournal, IsOfWorker}
use Rattle.ordered_commit.specs.Seats.{AreFreeSeats, new_seat}
use Rattle.std.specs.List.{sum}
use Rattle.ordered_commit.specs.declared.seat.Seat.{Seat}
use Rattle.worker_pool.proofs.DoneLemmas.{each_done, named_by, records_made}
use Rattle.worker_pool.proofs.OutcomeLemmas.{begins_of}
use Rattle.worker_pool.proofs.PoolLemmas.{lent, new_empty}
use Rattle.worker_pool.proofs.RunLemmas.{Unfailed}
use Rattle.worker_pool.specs.RunHistory.{BeginsWith, EndsAtFirst, IsHistoryOf}
use Rattle.worker_pool.specs.inner.Runs.{AtStart}
use Rattle.worker_pool.proofs.StartLemmas.{begins_with, ends_alone}
use Rattle.ordered_commit.proofs.Lent.{new_length}
use Rattle.worker_pool.proofs.EndLemmas.{kept_history}
use Rattle.worker_pool.proofs.pool.run_several.Goals as goal

pub run_named-board-requires-clause-of_run : goal.run_named-board-requires-clause-of_run
run_named-board-requires-clause-of_run g c κs within = record {
  same_first = refl;
  same_digest = refl;
  same_kept = refl;
  same_name = refl;
  all_seats = ap (λ state. length state.seats) c.requires.board ∙ new_length (length c.args.workers.now);
  start = subst (AtStart (g.S.Step.first c.args.board.front)) (sym (ap (λ state. state.table) c.requires.board)) (λ _. omega arith);
  unfailed = λ _. subst Unfailed (sym (ap (λ state. state.seats) c.requires.board)) (λ k d within. (new_empty (length c.args.workers.now) k d within).1);
  rose = λ is. absurd (cc (sym (ap (λ state. state.fault) c.requires.board) ∙ is));
  quiet = λ _. refl;
}

pub end-requires : goal.end-requires
end-requires g c =
    let named = c.run_named-board.ensures in
    let many : length c.args.seats.items ≡ c.args.seats.len = ap length (sym c.as_mut_slice.ensures.value) ∙ c.as_mut_slice.ensures.len in
    let same = lent c.run_named-board.new.seats c.args.seats.items c.args.seats.len many (named.seats ∙ c.as_mut_slice.ensures.len) in
    subst (AreFreeSeats c.run_named-board.result.seats) (sym same) named.free

pub returns-clause-outcome : goal.returns-clause-outcome
returns-clause-outcome g c =
    let state = c.run_named-board.result in
    let run = c.run_named-board.ensures.run in
    let n = length c.args.workers.now in
    let first = g.S.Step.first c.args.board.front in
    let start = c.args.board.start in
    let kept = c.args.board.kept in
    let plan = g.S.Step.plan in
    let put = g.J.Sink.put_so_far in
    let faults = g.J.Sink.faults in
    let end = c.end.ensures in
    let out = c.end.result in
    record {
      history =
          subst (IsHistoryOf g.G.Gate.may_say (verdict_in kept) first) (sym end.events)
          (kept_history plan g.S.Step.first g.G.Gate.may_say put faults state first (verdict_in kept) end.kept run.same_first
          (ap verdict_in run.same_kept));
      begins =
          subst (λ (h : History). BeginsWithin (ahead (2 * n) first) (records_of h) []) (sym end.events)
          (begins_of plan g.S.Step.first g.G.Gate.may_say put faults state n first end.kept run.all_seats run.same_first);
      same_first = ap g.S.Step.first end.front ∙ run.same_first;
      start = λ over.
          let begins = begins_of plan g.S.Step.first g.G.Gate.may_say put faults state n first end.kept run.all_seats run.same_first in (
            subst (λ (h : History). BeginsWith first (records_of h)) (sym end.events) (begins_with (2 * n) first (records_of state.history) over begins),
            subst (λ (h : History). EndsAtFirst first (records_of h)) (sym end.events)
                (subst (EndsAtFirst first) end.kept.recorded.recorded (ends_alone first state.table.records state.table.claims (run.start over))),
          );
      ended = λ none.
          let quiet = sym end.fault ∙ none in
          let ended = c.run_named-board.ensures.over quiet in
          let followed = end.followed quiet ended in (
            subst (λ front. HasEnded (plan front)) (sym end.front) ended,
            ap plan end.front ∙ followed ∙ ap (λ (p : Plan). follow (verdict_in (records_of state.history)) p) run.same_first
                ∙ ap (λ (h : History). follow (verdict_in (records_of h)) first) (sym end.events),
          );
      replayed = λ none.
          ap plan end.front ∙ end.kept.replayed (sym end.fault ∙ none) ∙ ap (λ (p : Plan). replay p state.history) run.same_first
          ∙ ap (replay first) (sym end.events);
      journal = subst (λ journal. IfSome (put journal) (λ p. IsJournal start out.fault out.events.items p.bytes)) (sym end.journal)
          (subst (λ fault. IfSome (put state.journal) (λ p. IsJournal start fault out.events.items p.bytes)) (sym end.fault)
          (subst (λ history. IfSome (put state.journal) (λ p. IsJournal start state.fault history p.bytes)) (sym end.events)
          (subst (λ d. IfSome (put state.journal) (λ p. IsJournal d state.fault state.history p.bytes)) run.same_digest end.kept.journal)));
      due = λ broken.
          subst (λ journal. IfSome (put journal) (λ p. BrokeWhereDue first start kept out.events.items p.bytes)) (sym end.journal)
          (subst (λ history. IfSome (put state.journal) (λ p. BrokeWhereDue first start kept history p.bytes)) (sym end.events)
          (subst (λ verdicts. IfSome (put state.journal) (λ p. BrokeWhereDue first start verdicts state.history p.bytes)) run.same_kept
          (subst (λ d. IfSome (put state.journal) (λ p. BrokeWhereDue first d state.kept state.history p.bytes)) run.same_digest
          (subst (λ (begun : Plan). IfSome (put state.journal) (λ p. BrokeWhereDue begun state.start state.kept state.history p.bytes)) run.same_first
          (end.kept.due (sym end.fault ∙ broken))))));
      same_name = ap (λ journal. option_map (λ p. p.name) (put journal)) end.journal ∙ run.same_name;
      rose = λ is. subst (λ journal. Rose (faults c.args.board.journal) (faults journal)) (sym end.journal) (run.rose (sym end.fault ∙ is));
      quiet = λ no. ap faults end.journal ∙ run.quiet (λ is. no (end.fault ∙ is));
    }

pub returns-clause-workers : goal.returns-clause-workers
returns-clause-workers g c =
    let n = length c.args.workers.now in
    let named = c.run_named-board.ensures in
    let state = c.run_named-board.result in
    let out = c.end.result in
    let begun = c.as_mut_slice.ensures.value ∙ c.requires.seats in
    let as_many = named.seats ∙ ap length begun ∙ new_length n in
    let of_worker = subst (λ (f : Option PoolFault). IsOfWorker f state.seats) (sym c.end.ensures.fault) c.end.ensures.kept.workers.of_worker in
    let unfailed = λ (none : out.fault ≡ None). named.run.unfailed (sym c.end.ensures.fault ∙ none) in
    let many : length c.args.seats.items ≡ c.args.seats.len = ap length (sym c.as_mut_slice.ensures.value) ∙ c.as_mut_slice.ensures.len in
    let same = lent c.run_named-board.new.seats c.args.seats.items c.args.seats.len many (named.seats ∙ c.as_mut_slice.ensures.len) in
    record {
      counts = records_made c.run_named-board.new.seats;
      one_each = length-map c.run_named-board.new.seats (λ (t : Seat). t.records) ∙ as_many;
      lengths = named.workers;
      each = λ i d less.
          each_done g.G.Gate.log g.G.Gate.faults out.fault _ c.run_named-board.new.seats state.seats n i (new_seat 0) (slice_index_or c.args.workers.now i d)
          (slice_index_or c.run_named-board.new.workers i d)
          begun as_many less (named.each i d (new_seat 0) less) of_worker unfailed named.free.agree;
      total =
          ap (λ (ss : List Seat). sum (map (λ (t : Seat). t.records) ss)) (sym same) ∙ c.end.ensures.records
          ∙ ap (λ (h : History). length (asked_records_of h)) (sym c.end.ensures.events);
      named = λ worker is. named_by out.fault state.seats n worker c.end.ensures.kept.workers.numbered named.run.all_seats of_worker is;
    }
