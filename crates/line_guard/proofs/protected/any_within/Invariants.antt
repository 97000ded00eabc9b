use Rattle.std.proofs.Common.{◌≡◌, ◌≤◌, ◌<◌, ◌+◌, ℕ, false, get_or}
use Rattle.line_guard.proofs.protected.any_within.Given as goal

-- no flag is set so far
abbrev pub invariant-loop-at : goal.invariant-loop-at
invariant-loop-at l = (k : ℕ) → l.fn.first ≤ k + 1 → k < l.at → get_or l.flags k false ≡ false
