use Rattle.std.proofs.Common.{◌≡◌, ◌-◌, ◌≤◌, length, map, vec_len}
use Rattle.grammar_check_nodes.specs.inner.Graph.{IsSearched}
use Rattle.grammar_check_nodes.proofs.cycles.reached_from.Given as goal

abbrev pub invariant-loop-done : goal.invariant-loop-done
invariant-loop-done l =
    (vec_len l.search.reached ≡ length l.edges)
    × (l.done ≤ vec_len l.search.found)
    × IsSearched (map (λ row. row.items) l.edges) l.node l.search.found.items l.done

abbrev pub decreases-loop-done : goal.decreases-loop-done
decreases-loop-done l = length l.edges - l.done
