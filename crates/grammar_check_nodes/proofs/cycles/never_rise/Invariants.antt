use Rattle.std.proofs.Common.{ℕ, ◌<◌, ◌≤◌, map, slice_index}
use Rattle.grammar_check_nodes.specs.Graph.{HasEdge}
use Rattle.grammar_check_nodes.proofs.cycles.never_rise.Given as goal

abbrev pub invariant-loop-node : goal.invariant-loop-node
invariant-loop-node l = (i j : ℕ) → i < l.node → HasEdge (map (λ row. row.items) l.edges) i j → slice_index l.numbers j ≤ slice_index l.numbers i
