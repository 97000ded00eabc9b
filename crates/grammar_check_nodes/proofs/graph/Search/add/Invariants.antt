use Rattle.std.proofs.Common.{◌≡◌, take, vec_len}
use Rattle.grammar_check_nodes.specs.inner.Graph.{with_row}
use Rattle.grammar_check_nodes.proofs.graph.Search.add.Given as goal

abbrev pub invariant-loop-node : goal.invariant-loop-node
invariant-loop-node l =
    (vec_len l.self.reached ≡ vec_len l.fn.self.reached) × (l.self.found.items ≡ with_row l.fn.self.found.items (take l.node-index l.row))
