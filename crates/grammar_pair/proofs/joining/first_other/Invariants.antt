use Rattle.std.proofs.Common.{◌≡◌, length}
use Rattle.std.specs.Prelude.{filter, not}
use Rattle.grammar_tree.specs.Kinds.{same_text}
use Rattle.grammar_pair.specs.Joined.{first}
use Rattle.grammar_pair.proofs.joining.first_other.Given as goal

abbrev pub invariant-loop-rest : goal.invariant-loop-rest
invariant-loop-rest l = first (filter (λ other. not (same_text other l.name)) l.rest) ≡ first (filter (λ other. not (same_text other l.name)) l.fn.names)

abbrev pub decreases-loop-rest : goal.decreases-loop-rest
decreases-loop-rest l = length l.rest
