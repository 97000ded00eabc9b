use Rattle.std.proofs.Common.{◌≡◌, length, map, vec_len}
use Rattle.grammar_check_nodes.specs.inner.Graph.{AreFound}
use Rattle.grammar_check_nodes.proofs.graph.targets.Given as goal

abbrev pub invariant-loop-row : goal.invariant-loop-row
invariant-loop-row l = (vec_len l.search.reached ≡ length l.edges) × AreFound (map (λ row. row.items) l.edges) l.search.found.items l.row-index
