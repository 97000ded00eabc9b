use Rattle.std.proofs.Common.{◌≡◌, length}
use Rattle.command_perses.specs.Workers.{AreNumbered}
use Rattle.cases_calls.proofs.run.by_holding.Given as goal

-- the workers so far
abbrev pub invariant-loop-earlier : goal.invariant-loop-earlier
invariant-loop-earlier g l = AreNumbered l.workers.items × (length l.workers.items ≡ l.earlier)
