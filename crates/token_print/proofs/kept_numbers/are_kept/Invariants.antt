use Rattle.std.proofs.Common.{ℕ, ◌<◌}
use Rattle.token_print.proofs.Numbers.{IsNext}
use Rattle.token_print.proofs.kept_numbers.are_kept.Given as goal

abbrev pub invariant-loop-index : goal.invariant-loop-index
invariant-loop-index l = (k : ℕ) → k < l.index → IsNext l.bound l.kept k
