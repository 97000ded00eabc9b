use Rattle.std.proofs.Common.{ℕ, ◌<◌}
use Rattle.grammar_tree.specs.Derives.{bodies}
use Rattle.grammar_check_faults.specs.inner.ParserFaults.{HasNoBaseAt}
use Rattle.grammar_check_faults.proofs.parser_checks.first_without_base.Given as goal

abbrev pub invariant-loop-number : goal.invariant-loop-number
invariant-loop-number l = (r : ℕ) → r < l.number → ¬ HasNoBaseAt (bodies l.names) r
