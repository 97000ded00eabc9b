use Rattle.std.proofs.Common.{arith}
use Rattle.ordered_commit.proofs.Lent.{few_records}
use Rattle.run_gated.proofs.run.record_count.Goals as goal

pub overflow_add-records : goal.overflow_add-records
overflow_add-records c = omega (arith, few_records c.args.events.now, c.loop-event.invariant)
