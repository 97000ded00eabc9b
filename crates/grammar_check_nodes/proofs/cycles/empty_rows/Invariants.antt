use Rattle.std.proofs.Common.{◌≡◌, ◌<◌, vec_len}
use Rattle.std.specs.List.{All}
use Rattle.grammar_check_nodes.proofs.cycles.empty_rows.Given as goal

abbrev pub invariant-loop : goal.invariant-loop
invariant-loop l = (vec_len l.rows ≡ l.counter) × All (λ row. All (λ j. j < l.nodes) row.items) l.rows.items
