use Rattle.std.proofs.Common.{refl}
use Rattle.reduce_journal.specs.History.{asked_records_of, records_of}
use Rattle.worker_pool.proofs.DoneLemmas.{only_done}
use Rattle.worker_pool.proofs.OutcomeLemmas.{begins_ahead, ended_by, is_of_one, new_first, new_head, number_by, quiet_by, rose_by, same_by, script_by}
use Rattle.worker_pool.specs.Runs.{members}
use Rattle.worker_pool.proofs.start.run_one.Goals as goal

pub run_alone-requires-clause-first : goal.run_alone-requires-clause-first
run_alone-requires-clause-first g c =
    new_first g.S.Step.plan g.S.Step.first g.G.Gate.may_say g.J.Sink.put_so_far g.J.Sink.faults 1 c.args.board c.args.board.start c.args.board.kept
    c.args.board.front c.args.board.journal
    c.agrees.ensures.kept c.requires.board

pub run_alone-requires-clause-head : goal.run_alone-requires-clause-head
run_alone-requires-clause-head g c =
    new_head g.S.Step.plan g.S.Step.first g.G.Gate.may_say g.J.Sink.put_so_far g.J.Sink.faults 1 c.args.board c.args.board.start c.args.board.kept
    c.args.board.front c.args.board.journal
    c.agrees.ensures.kept c.requires.board

pub returns-clause-outcome : goal.returns-clause-outcome
returns-clause-outcome g c =
    let alone = c.run_alone.ensures in
    let out = c.run_alone.result in
    let first = g.S.Step.first c.args.board.front in
    record {
      history = alone.history;
      begins = begins_ahead first (records_of out.events.items) alone.begun;
      same_first = alone.first;
      start = λ _. (alone.begun, alone.one);
      ended = ended_by out.fault first (g.S.Step.plan out.front) (records_of out.events.items) alone.ended;
      replayed = alone.replayed;
      journal = alone.kept;
      due = alone.due;
      same_name = alone.name;
      rose = rose_by out.fault _ _ _ _ alone.caused;
      quiet = quiet_by out.fault _ _ _ _ alone.caused;
    }

pub returns-clause-workers : goal.returns-clause-workers
returns-clause-workers g c =
    let alone = c.run_alone.ensures in
    let out = c.run_alone.result in
    only_done g.G.Gate.log g.G.Gate.faults out.fault
    (asked_records_of out.events.items) c.run_alone.new.gate c.args.workers.now _ out.events.items refl c.requires.only c.requires.unseated alone.asked
    (script_by out.fault _ _ _ _ alone.caused) (same_by out.fault _ _ _ _ alone.caused) (number_by out.fault _ _ _ _ alone.caused)

pub returns-clause-one : goal.returns-clause-one
returns-clause-one g c =
    let alone = c.run_alone.ensures in
    let out = c.run_alone.result in
    is_of_one g.S.Step.plan g.G.Gate.log g.G.Gate.faults g.J.Sink.put_so_far g.J.Sink.faults
    (members g.S.Step.first g.J.Sink.put_so_far g.J.Sink.faults 1 c.args.board) out c.args.workers.now _ c.run_alone.new.gate c.requires.only (record {
      sequential = alone.sequential;
      begun = alone.begun;
      one = alone.one;
      asked = alone.asked;
      ended = alone.ended;
      caused = alone.caused;
      journal = alone.journal;
    })
