use Rattle.std.proofs.Common.{◌≡◌, ◌++◌, drop}
use Rattle.line_guard.specs.Protected.{numbers_where}
use Rattle.line_guard.proofs.numbers.Numbers.of_flags.Given as goal

-- the numbers so far, and then those that are left
abbrev pub invariant-loop-at : goal.invariant-loop-at
invariant-loop-at l = l.items.items ++ numbers_where (λ flag. flag) l.at (drop l.at l.flags) ≡ numbers_where (λ flag. flag) 0 l.flags
