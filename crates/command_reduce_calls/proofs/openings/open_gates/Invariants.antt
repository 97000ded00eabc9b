use Rattle.command_words.specs.Lines.{reduce_read}
use Rattle.command_reduce_calls.proofs.OpeningLemmas.{AreOpened}
use Rattle.command_reduce_calls.proofs.openings.open_gates.Given as goal

-- the gates so far were opened
abbrev pub invariant-loop-worker : goal.invariant-loop-worker
invariant-loop-worker g l = AreOpened g.G.Gate.log g.G.Gate.faults (reduce_read l.line) l.worker-index l.fn.workers l.workers
