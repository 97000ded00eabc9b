use Rattle.std.proofs.Common.{◌≡◌, ◌<◌, length, vec_len}
use Rattle.std.specs.List.{All}
use Rattle.grammar_check_nodes.proofs.cycles.reversed.Given as goal

abbrev pub invariant-loop-node : goal.invariant-loop-node
invariant-loop-node l = (vec_len l.rows ≡ length l.edges) × All (λ row. All (λ j. j < length l.edges) row.items) l.rows.items
