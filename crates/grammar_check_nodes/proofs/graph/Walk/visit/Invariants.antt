use Rattle.std.proofs.Common.{◌≡◌, length, vec_len}
use Rattle.grammar_check_nodes.proofs.graph.Walk.visit.Given as goal

abbrev pub invariant-loop : goal.invariant-loop
invariant-loop l = vec_len l.self.entered ≡ length l.edges
