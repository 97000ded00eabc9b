use Rattle.std.proofs.Common.{◌≡◌, vec_len}
use Rattle.grammar_check_nodes.proofs.cycles.number_from.Given as goal

abbrev pub invariant-loop-i : goal.invariant-loop-i
invariant-loop-i l = vec_len l.numbers ≡ vec_len l.fn.numbers
