use Rattle.std.proofs.Common.{◌≡◌, length}
use Rattle.command_perses.specs.Workers.{AreNumbered}
use Rattle.perses_main.proofs.all_workers.Given as goal

-- the workers so far
abbrev pub invariant-loop : goal.invariant-loop
invariant-loop l = AreNumbered l.workers.items × (length l.workers.items ≡ l.counter)
