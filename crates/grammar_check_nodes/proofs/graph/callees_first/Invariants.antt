use Rattle.std.proofs.Common.{◌≡◌, length, vec_len}
use Rattle.grammar_check_nodes.proofs.graph.callees_first.Given as goal

abbrev pub invariant-loop-node : goal.invariant-loop-node
invariant-loop-node l = vec_len l.walk.entered ≡ length l.edges
