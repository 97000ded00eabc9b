use Rattle.std.proofs.Common.{◌≡◌, ◌++◌, [], take}
use Rattle.std.specs.List.{flat_map}
use Rattle.std.specs.Option.{option_map_or}
use Rattle.grammar_tree.specs.Corners.{rest_of}
use Rattle.grammar_tree.specs.Derives.{resolved_seq}
use Rattle.grammar_tree.specs.View.{parser_terms}
use Rattle.grammar_tree.specs.Written.{written_seq}
use Rattle.grammar_check_parser_rules.specs.Corners.{seq_corners}
use Rattle.grammar_check_nodes.specs.Flags.{flag}
use Rattle.grammar_check_parser_rules.proofs.recursion.add_rest_corners.Given as goal

abbrev pub invariant-loop-terms : goal.invariant-loop-terms
invariant-loop-terms l =
    l.found.items ≡ l.initial.found.items ++ flat_map
    (λ s. option_map_or (seq_corners (flag l.flags)) (rest_of l.number (resolved_seq l.names (written_seq (parser_terms s)))) [])
    (take l.terms-index l.terms-items)
