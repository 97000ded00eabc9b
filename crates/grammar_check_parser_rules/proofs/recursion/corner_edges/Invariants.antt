use Rattle.std.proofs.Common.{◌≡◌, ℕ, ◌<◌, Some, map, slice_get, vec_len}
use Rattle.grammar_tree.specs.Derives.{Alts, bodies}
use Rattle.grammar_check_parser_rules.specs.Corners.{rule_corners}
use Rattle.grammar_check_nodes.specs.Flags.{flag}
use Rattle.grammar_check_parser_rules.proofs.recursion.corner_edges.Given as goal

abbrev pub invariant-loop-number : goal.invariant-loop-number
invariant-loop-number l =
    (vec_len l.edges ≡ l.number)
    × ((r : ℕ) (a : Alts) → r < l.number → slice_get (bodies l.names) r ≡ Some a
    → slice_get (map (λ successors. successors.items) l.edges.items) r ≡ Some (rule_corners (flag l.flags) r a))
