use Rattle.std.proofs.Common.{ℕ, ◌<◌, map}
use Rattle.grammar_check_nodes.specs.Graph.{IsOnCycle}
use Rattle.grammar_check_nodes.proofs.cycles.first_on_cycle.Given as goal

abbrev pub invariant-loop-node : goal.invariant-loop-node
invariant-loop-node l = (j : ℕ) → j < l.node → ¬ IsOnCycle (map (λ row. row.items) l.edges) j
