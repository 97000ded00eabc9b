use Rattle.std.proofs.Common.{arith, sym}
use Rattle.line_guard.proofs.FlagLemmas.{absent, present}
use Rattle.line_guard.proofs.protected.any_within.Goals as goal

pub returns-then-flags-at : goal.returns-then-flags-at
returns-then-flags-at c =
    sym (present c.args.first c.args.last 1 c.args.flags.now c.loop-at.at (omega arith) (omega arith) (omega arith) c.if-flags-at.true)

pub returns : goal.returns
returns c =
    sym (absent c.args.first c.args.last 1 c.args.flags.now (λ k inside low high. c.loop-at.invariant k (omega arith) (omega arith)))
