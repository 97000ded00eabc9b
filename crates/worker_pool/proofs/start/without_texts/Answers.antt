use Rattle.std.proofs.Common.{◌≡◌, ◌*◌, Some, IfSome, ap, length, option_map, refl, slice_index_or, subst, sym, ◌∙◌}
use Rattle.faults.specs.Memory.{ran_out}
use Rattle.reduce_journal.specs.History.{History, asked_records_of, records_of}
use Rattle.verdict_table.specs.TableState.{texts_of, verdict_in}
use Rattle.reduce_step.specs.Ahead.{ahead}
use Rattle.ordered_commit.specs.declared.fault.BoardFault.TheVariants as board
use Rattle.ordered_commit.specs.declared.fault.PoolFault.TheVariants.{Memory}
use Rattle.ordered_commit.specs.Kept.{IsJournal}
use Rattle.ordered_commit.specs.Seats.{AreFreeSeats, new_seats}
use Rattle.ordered_commit.proofs.Lent.{new_are_free}
use Rattle.worker_pool.specs.RunHistory.{BeginsWith, EndsAtFirst, with_all_asked}
use Rattle.worker_pool.proofs.EndLemmas.{none_asked, none_history, none_sequential}
use Rattle.worker_pool.proofs.DoneLemmas.{none_done}
use Rattle.worker_pool.proofs.OutcomeLemmas.{begins_none, new_head, no_history}
use Rattle.worker_pool.proofs.start.without_texts.Goals as goal

pub end-outcome-requires : goal.end-outcome-requires
end-outcome-requires g c =
    let n = length c.args.workers.now in
    subst (λ seats. AreFreeSeats seats c.args.seats.items) (sym (ap (λ state. state.seats) c.requires.board))
    (subst (AreFreeSeats (new_seats n)) (sym c.requires.seats) (new_are_free n))

pub returns-clause-outcome : goal.returns-clause-outcome
returns-clause-outcome g c =
    let n = length c.args.workers.now in
    let first = g.S.Step.first c.args.board.front in
    let put = g.J.Sink.put_so_far in
    let faults = g.J.Sink.faults in
    let end = c.end-outcome.ensures in
    let out = c.end-outcome.result in
    let none =
    end.events ∙ no_history g.S.Step.plan g.S.Step.first g.G.Gate.may_say put faults n c.args.board c.args.board.start c.args.board.kept c.args.board.front
    c.args.board.journal end.kept
    c.requires.board in
    let head =
    new_head g.S.Step.plan g.S.Step.first g.G.Gate.may_say put faults n c.args.board c.args.board.start c.args.board.kept c.args.board.front
    c.args.board.journal end.kept
    c.requires.board in
    record {
      history = none_history g.G.Gate.may_say (verdict_in c.args.board.kept) first out.events.items none;
      begins = begins_none (ahead (2 * n) first) out.events.items none;
      same_first = ap g.S.Step.first end.front;
      start = λ _. (
        subst (λ (h : History). BeginsWith first (records_of h)) (sym none) tt,
        subst (λ (h : History). EndsAtFirst first (records_of h)) (sym none) tt,
      );
      ended = λ is. absurd (cc is);
      replayed = λ is. absurd (cc is);
      journal = subst (λ journal. IfSome (put journal) (λ p. IsJournal c.args.board.start (Some (Memory ran_out)) out.events.items p.bytes)) (sym end.journal)
          (subst (λ (h : History). IfSome (put c.args.board.journal) (λ p. IsJournal c.args.board.start (Some (Memory ran_out)) h p.bytes)) (sym none) head);
      due = λ is. absurd (cc is);
      same_name = ap (λ journal. option_map (λ p. p.name) (put journal)) end.journal;
      rose = λ is. absurd (cc is);
      quiet = λ _. ap faults end.journal;
    }

pub returns-clause-workers : goal.returns-clause-workers
returns-clause-workers g c =
    let n = length c.args.workers.now in
    let end = c.end-outcome.ensures in
    let none =
    end.events ∙ no_history g.S.Step.plan g.S.Step.first g.G.Gate.may_say g.J.Sink.put_so_far g.J.Sink.faults n c.args.board c.args.board.start
    c.args.board.kept c.args.board.front
    c.args.board.journal end.kept c.requires.board in
    none_done g.G.Gate.log g.G.Gate.faults c.args.workers.now c.end-outcome.result.events.items none c.requires.unseated

pub returns-clause-one : goal.returns-clause-one
returns-clause-one g c = λ d.
    let log = g.G.Gate.log (slice_index_or c.args.workers.now 0 d).gate in
    let n = length c.args.workers.now in
    let first = g.S.Step.first c.args.board.front in
    let put = g.J.Sink.put_so_far in
    let end = c.end-outcome.ensures in
    let items = c.end-outcome.result.events.items in
    let none =
    end.events ∙ no_history g.S.Step.plan g.S.Step.first g.G.Gate.may_say put g.J.Sink.faults n c.args.board c.args.board.start c.args.board.kept
    c.args.board.front
    c.args.board.journal end.kept
    c.requires.board in
    let head =
    new_head g.S.Step.plan g.S.Step.first g.G.Gate.may_say put g.J.Sink.faults n c.args.board c.args.board.start c.args.board.kept
    c.args.board.front c.args.board.journal
    end.kept
    c.requires.board in
    record {
      sequential = none_sequential (board.Memory ran_out) (verdict_in c.args.board.kept) first (Some (Memory ran_out)) items refl none;
      begun = subst (λ (h : History). BeginsWith first (records_of h)) (sym none) tt;
      one = subst (λ (h : History). EndsAtFirst first (records_of h)) (sym none) tt;
      asked = subst (λ (h : History). log ≡ option_map (with_all_asked (texts_of (asked_records_of h))) log) (sym none) (none_asked log);
      ended = tt;
      caused = (refl, ap g.J.Sink.faults end.journal);
      journal = subst (λ journal. IfSome (put journal) (λ p. IsJournal c.args.board.start (Some (Memory ran_out)) items p.bytes)) (sym end.journal)
          (subst (λ (h : History). IfSome (put c.args.board.journal) (λ p. IsJournal c.args.board.start (Some (Memory ran_out)) h p.bytes)) (sym none) head);
    }
