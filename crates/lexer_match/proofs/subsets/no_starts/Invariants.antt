use Rattle.std.proofs.Common.{◌≡◌, None, replicate}
use Rattle.lexer_match.proofs.subsets.no_starts.Given as goal

abbrev pub invariant-loop : goal.invariant-loop
invariant-loop l = l.starts.items ≡ replicate l.counter None
