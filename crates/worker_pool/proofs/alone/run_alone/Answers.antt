use Rattle.std.proofs.Common.{◌≡◌, IfSome, List, ap, get_or, option_map, subst, sym, ◌∙◌}
use Rattle.reduce_journal.specs.History.{asked_records_of, records_of}
use Rattle.verdict_table.specs.TableState.{texts_of, verdict_in}
use Rattle.ordered_commit.specs.Replay.{replay}
use Rattle.ordered_commit.specs.declared.seat.Seat.{Seat}
use Rattle.ordered_commit.specs.Kept.{BrokeWhereDue, IsJournal}
use Rattle.ordered_commit.specs.Seats.{new_seat}
use Rattle.worker_pool.specs.RunHistory.{IsHistoryOf, IsSequential, with_all_asked}
use Rattle.worker_pool.specs.RunEnds.{IsCaused, ReducerEnds}
use Rattle.worker_pool.specs.UnderWay.{AreJournalBytes}
use Rattle.worker_pool.specs.inner.UnderWay.{IsFree, IsUnderWay, moment}
use Rattle.worker_pool.proofs.BeginLemmas.{begins_with, ends_at_first}
use Rattle.worker_pool.proofs.EndLemmas.{came, due_with, kept_history}
use Rattle.worker_pool.proofs.NewLemmas.{new_free, new_under_way}
use Rattle.worker_pool.proofs.alone.run_alone.Goals as goal

pub loop-init : goal.loop-init
loop-init g c =
    let first = g.S.Step.first in
    let plan = g.S.Step.plan in
    let put = g.J.Sink.put_so_far in
    let faults = g.J.Sink.faults in
    let log = g.G.Gate.log c.args.gate.now in
    let count = g.G.Gate.faults c.args.gate.now in
    let seat_is : c.index.result.now ≡ new_seat 1 = c.index.ensures ∙ ap (λ (seats : List Seat). get_or seats 0 c.index.result.now) c.requires.seats in
    let way =
    new_under_way first plan put faults c.args.board.start c.args.board.kept c.args.board.front c.args.board.journal log count c.requires.first
    c.requires.head in
    let way_before =
    subst (λ seat. IsUnderWay (moment first plan put faults c.args.board log count) (moment first plan put faults c.args.board log count) seat)
    (sym seat_is)
    (subst (λ state. IsUnderWay (moment first plan put faults state log count) (moment first plan put faults state log count) (new_seat 1))
    (sym c.requires.new) way) in
    let free_before =
    subst (λ seat. IsFree seat c.args.board) (sym seat_is)
    (subst (λ state. IsFree (new_seat 1) state) (sym c.requires.new)
    (new_free first plan put faults c.args.board.start c.args.board.kept c.args.board.front c.args.board.journal)) in
    record {
      way = c.commit_all.ensures.way (moment first plan put faults c.args.board log count) c.index.result.now log count way_before;
      free = c.commit_all.ensures.free c.index.result.now free_before;
      settled = c.commit_all.ensures.settled;
      seats = c.requires.seats;
    }

pub loop-preserved : goal.loop-preserved
loop-preserved g c = record {
  way = c.turn.ensures.way _ c.loop.invariant.way;
  free = c.turn.ensures.free;
  settled = c.turn.ensures.settled;
  seats = c.loop.invariant.seats;
}

pub returns-clause-history : goal.returns-clause-history
returns-clause-history g c =
    let way = c.turn.ensures.way _ c.loop.invariant.way in
    subst (IsHistoryOf g.G.Gate.may_say (verdict_in c.args.board.kept) (g.S.Step.first c.args.board.front)) (sym c.end.ensures.events)
    (kept_history g.S.Step.plan g.S.Step.first g.G.Gate.may_say g.J.Sink.put_so_far g.J.Sink.faults c.turn.new.board
    (g.S.Step.first c.args.board.front) (verdict_in c.args.board.kept) c.end.ensures.kept way.same_first way.same_kept)

pub returns-clause-sequential : goal.returns-clause-sequential
returns-clause-sequential g c =
    let way = c.turn.ensures.way _ c.loop.invariant.way in
    let first = g.S.Step.first c.args.board.front in
    let K = verdict_in c.args.board.kept in
    subst (λ fault. IsSequential K fault first c.end.result.events.items) (sym c.end.ensures.fault)
    (subst (λ history. IsSequential K c.turn.new.board.fault first history) (sym c.end.ensures.events)
    (came _ _ _ way (c.turn.ensures.over c.loop-test.false)).0)

pub returns-clause-begun : goal.returns-clause-begun
returns-clause-begun g c =
    begins_with (verdict_in c.args.board.kept) c.end.result.fault (g.S.Step.first c.args.board.front) c.end.result.events.items
    (returns-clause-sequential g c)

pub returns-clause-one : goal.returns-clause-one
returns-clause-one g c =
    ends_at_first (verdict_in c.args.board.kept) c.end.result.fault (g.S.Step.first c.args.board.front) c.end.result.events.items
    (returns-clause-sequential g c)

pub returns-clause-asked : goal.returns-clause-asked
returns-clause-asked g c =
    let way = c.turn.ensures.way _ c.loop.invariant.way in
    way.asked ∙ ap (λ history. option_map (with_all_asked (texts_of (asked_records_of history))) (g.G.Gate.log c.args.gate.now)) (sym c.end.ensures.events)

pub returns-clause-first : goal.returns-clause-first
returns-clause-first g c =
    let way = c.turn.ensures.way _ c.loop.invariant.way in
    ap (λ front. g.S.Step.first front) c.end.ensures.front ∙ way.same_first

pub returns-clause-ended : goal.returns-clause-ended
returns-clause-ended g c =
    let way = c.turn.ensures.way _ c.loop.invariant.way in
    let first = g.S.Step.first c.args.board.front in
    subst (λ fault. ReducerEnds fault first (g.S.Step.plan c.end.result.front) (records_of c.end.result.events.items)) (sym c.end.ensures.fault)
    (subst (λ front. ReducerEnds c.turn.new.board.fault first (g.S.Step.plan front) (records_of c.end.result.events.items)) (sym c.end.ensures.front)
    (subst (λ history. ReducerEnds c.turn.new.board.fault first (g.S.Step.plan c.turn.new.board.front) (records_of history)) (sym c.end.ensures.events)
    (came _ _ _ way (c.turn.ensures.over c.loop-test.false)).1))

pub returns-clause-replayed : goal.returns-clause-replayed
returns-clause-replayed g c = λ none.
    let way = c.turn.ensures.way _ c.loop.invariant.way in
    ap g.S.Step.plan c.end.ensures.front ∙ c.end.ensures.kept.replayed (sym c.end.ensures.fault ∙ none)
    ∙ ap (λ first. replay first c.turn.new.board.history) way.same_first
    ∙ ap (replay (g.S.Step.first c.args.board.front)) (sym c.end.ensures.events)

pub returns-clause-caused : goal.returns-clause-caused
returns-clause-caused g c =
    let way = c.turn.ensures.way _ c.loop.invariant.way in
    subst (λ fault. IsCaused fault (g.G.Gate.faults c.args.gate.now) (g.G.Gate.faults c.turn.new.gate) (g.J.Sink.faults c.args.board.journal)
    (g.J.Sink.faults c.end.result.journal)) (sym c.end.ensures.fault)
    (subst (λ journal. IsCaused c.turn.new.board.fault (g.G.Gate.faults c.args.gate.now) (g.G.Gate.faults c.turn.new.gate)
    (g.J.Sink.faults c.args.board.journal) (g.J.Sink.faults journal)) (sym c.end.ensures.journal) way.caused)

pub returns-clause-due : goal.returns-clause-due
returns-clause-due g c = λ broken.
    let way = c.turn.ensures.way _ c.loop.invariant.way in
    let put = g.J.Sink.put_so_far in
    let first = g.S.Step.first c.args.board.front in
    let start = c.args.board.start in
    let kept = c.args.board.kept in
    subst (λ journal. IfSome (put journal) (λ p. BrokeWhereDue first start kept c.end.result.events.items p.bytes)) (sym c.end.ensures.journal)
    (subst (λ history. IfSome (put c.turn.new.board.journal) (λ p. BrokeWhereDue first start kept history p.bytes)) (sym c.end.ensures.events)
    (due_with first start c.turn.new.board.history (put c.turn.new.board.journal) c.turn.new.board.kept kept way.same_kept
    (subst (λ d. IfSome (put c.turn.new.board.journal) (λ p. BrokeWhereDue first d c.turn.new.board.kept c.turn.new.board.history p.bytes)) way.same_start
    (subst (λ plan. IfSome (put c.turn.new.board.journal)
    (λ p. BrokeWhereDue plan c.turn.new.board.start c.turn.new.board.kept c.turn.new.board.history p.bytes)) way.same_first
    (c.end.ensures.kept.due (sym c.end.ensures.fault ∙ broken))))))

pub returns-clause-name : goal.returns-clause-name
returns-clause-name g c =
    let way = c.turn.ensures.way _ c.loop.invariant.way in
    ap (λ journal. option_map (λ put. put.name) (g.J.Sink.put_so_far journal)) c.end.ensures.journal ∙ way.same_name

pub returns-clause-journal : goal.returns-clause-journal
returns-clause-journal g c =
    let way = c.turn.ensures.way _ c.loop.invariant.way in
    let start = c.args.board.start in
    let kept = verdict_in c.args.board.kept in
    let put = g.J.Sink.put_so_far in
    subst (λ journal. IfSome (put journal) (λ p. AreJournalBytes start kept c.end.result.fault c.end.result.events.items p.bytes))
    (sym c.end.ensures.journal)
    (subst (λ fault. IfSome (put c.turn.new.board.journal) (λ p. AreJournalBytes start kept fault c.end.result.events.items p.bytes))
    (sym c.end.ensures.fault)
    (subst (λ history. IfSome (put c.turn.new.board.journal) (λ p. AreJournalBytes start kept c.turn.new.board.fault history p.bytes))
    (sym c.end.ensures.events) way.written))

pub returns-clause-kept : goal.returns-clause-kept
returns-clause-kept g c =
    let way = c.turn.ensures.way _ c.loop.invariant.way in
    subst (λ journal. IfSome (g.J.Sink.put_so_far journal) (λ put. IsJournal c.args.board.start c.end.result.fault c.end.result.events.items put.bytes))
    (sym c.end.ensures.journal)
    (subst (λ fault. IfSome (g.J.Sink.put_so_far c.turn.new.board.journal) (λ put. IsJournal c.args.board.start fault c.end.result.events.items put.bytes))
    (sym c.end.ensures.fault)
    (subst (λ history. IfSome (g.J.Sink.put_so_far c.turn.new.board.journal)
    (λ put. IsJournal c.args.board.start c.turn.new.board.fault history put.bytes)) (sym c.end.ensures.events)
    (subst (λ start. IfSome (g.J.Sink.put_so_far c.turn.new.board.journal)
    (λ put. IsJournal start c.turn.new.board.fault c.turn.new.board.history put.bytes)) way.same_start c.end.ensures.kept.journal)))
