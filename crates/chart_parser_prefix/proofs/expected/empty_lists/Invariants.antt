use Rattle.std.proofs.Common.{◌≡◌, ℕ, [], length}
use Rattle.chart_parser_prefix.specs.inner.Walk.{symbols_at}
use Rattle.chart_parser_prefix.proofs.expected.empty_lists.Given as goal

abbrev pub invariant-loop : goal.invariant-loop
invariant-loop l = (length l.lists.items ≡ l.counter) × ((m : ℕ) → symbols_at l.lists.items m ≡ [])
