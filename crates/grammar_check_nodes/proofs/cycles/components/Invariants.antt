use Rattle.std.proofs.Common.{◌≡◌, length, vec_len}
use Rattle.grammar_check_nodes.proofs.cycles.components.Given as goal

abbrev pub invariant-loop-i : goal.invariant-loop-i
invariant-loop-i l = (vec_len l.walk.entered ≡ length l.edges) × (vec_len l.numbers ≡ length l.edges)
