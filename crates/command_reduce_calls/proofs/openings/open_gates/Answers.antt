use Rattle.std.proofs.Common.{◌≡◌, ◌≤◌, ◌<◌, ◌∙◌, ℕ, arith, ap, length, refl}
use Rattle.std.proofs.lemmas.List.{length-map}
use Rattle.command_words.specs.Lines.{reduce_read}
use Rattle.run_gated.proofs.Lent.{worker_logs}
use Rattle.command_reduce_calls.specs.Openings.{opened_from}
use Rattle.command_reduce_calls.proofs.OpeningLemmas.{all_opened, gate_refused, none_opened, one_opened, opened_seen, quiet_seen, refused_idle}
use Rattle.command_reduce_calls.proofs.openings.open_gates.Goals as goal

pub loop-worker-init : goal.loop-worker-init
loop-worker-init g c = none_opened g.G.Gate.log g.G.Gate.faults (reduce_read c.args.line.now) c.args.workers.now c.requires.idle

pub loop-worker-preserved : goal.loop-worker-preserved
loop-worker-preserved g c =
    let at = c.loop-worker in
    let less : at.worker-index < length at.workers = let test = c.loop-worker-test.true in let many = at.invariant.as_many in omega (arith, test, many) in
    one_opened g.G.Gate.log g.G.Gate.faults (reduce_read c.args.line.now) c.args.workers.now at.workers at.worker-index c.worker-item.result
    c.open_gate.new.worker at.invariant less
    c.open_gate.ensures.number c.open_gate.ensures.seat c.in-Ok.ensures.opened c.in-Ok.ensures.quiet

pub returns-in-Err-clause-idle : goal.returns-in-Err-clause-idle
returns-in-Err-clause-idle g c =
    let at = c.loop-worker in
    let less : at.worker-index < length at.workers = let test = c.loop-worker-test.true in let many = at.invariant.as_many in omega (arith, test, many) in
    refused_idle g.G.Gate.log g.G.Gate.faults
    (reduce_read c.args.line.now) c.args.workers.now at.workers at.worker-index c.worker-item.result c.open_gate.new.worker at.invariant less
    c.open_gate.ensures.number c.open_gate.ensures.seat

pub returns-in-Err-clause-refused : goal.returns-in-Err-clause-refused
returns-in-Err-clause-refused g c =
    let at = c.loop-worker in
    let less : at.worker-index < length at.workers = let test = c.loop-worker-test.true in let many = at.invariant.as_many in omega (arith, test, many) in
    gate_refused g.G.Gate.log g.G.Gate.faults
    (reduce_read c.args.line.now) c.args.workers.now at.workers at.worker-index c.worker-item.result c.open_gate.new.worker _ c.in-Err.fault at.invariant less
    refl c.in-Err.ensures.kept c.in-Err.ensures.refused

pub returns-clause-idle : goal.returns-clause-idle
returns-clause-idle g c = c.loop-worker.invariant.idle

pub returns-clause-opened : goal.returns-clause-opened
returns-clause-opened g c =
    let at = c.loop-worker in
    let logs = worker_logs g.G.Gate.log c.args.workers.now in
    let many : length logs ≡ length c.args.workers.now = length-map c.args.workers.now (λ w. g.G.Gate.log w.gate) in
    let over : length logs ≤ at.worker-index = let test = c.loop-worker-test.false in let same = at.invariant.as_many in omega (arith, test, same, many) in
    opened_seen g.G.Gate.log g.G.Gate.faults (reduce_read c.args.line.now) c.args.workers.now at.workers (length c.args.workers.now)
    (at.invariant.logs ∙ all_opened (reduce_read c.args.line.now) 1 at.worker-index logs over
    ∙ ap (λ (n : ℕ). opened_from (reduce_read c.args.line.now) 1 n logs) many)

pub returns-clause-quiet : goal.returns-clause-quiet
returns-clause-quiet g c =
    quiet_seen g.G.Gate.log g.G.Gate.faults (reduce_read c.args.line.now) c.args.workers.now c.loop-worker.workers c.loop-worker.invariant.quiet
