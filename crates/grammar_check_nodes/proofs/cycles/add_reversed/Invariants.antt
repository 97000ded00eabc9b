use Rattle.std.proofs.Common.{◌≡◌, ℕ, ◌<◌, vec_len}
use Rattle.std.specs.List.{All}
use Rattle.grammar_check_nodes.proofs.cycles.add_reversed.Given as goal

abbrev pub invariant-loop-target : goal.invariant-loop-target
invariant-loop-target l =
    (vec_len l.rows ≡ vec_len l.fn.rows)
    × ((n : ℕ) → l.node < n → All (λ row. All (λ j. j < n) row.items) l.fn.rows.items → All (λ row. All (λ j. j < n) row.items) l.rows.items)
