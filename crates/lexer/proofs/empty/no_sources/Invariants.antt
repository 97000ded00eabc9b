use Rattle.std.proofs.Common.{◌≡◌, ℕ, map, vec_len}
use Rattle.grammar_check_nodes.specs.Graph.{HasEdge}
use Rattle.lexer.proofs.empty.no_sources.Given as goal

abbrev pub invariant-loop : goal.invariant-loop
invariant-loop l = record {
  len : vec_len l.rows ≡ l.counter;
  none : (i j : ℕ) → ¬ HasEdge (map (λ row. row.items) l.rows.items) i j;
}
