use Rattle.std.proofs.Common.{◌≡◌, length}
use Rattle.line_guard.proofs.tests.tokens_for.Given as goal

-- one token for each so far
abbrev pub invariant-loop-start : goal.invariant-loop-start
invariant-loop-start l = length l.items.items ≡ l.start-index
