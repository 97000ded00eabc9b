use Rattle.std.proofs.Common.{◌≡◌, false, take}
use Rattle.std.specs.List.{list_any}
use Rattle.std.specs.Option.{option_map_or}
use Rattle.grammar_tree.specs.Corners.{rest_of}
use Rattle.grammar_tree.specs.Derives.{resolved_seq}
use Rattle.grammar_tree.specs.View.{parser_terms}
use Rattle.grammar_tree.specs.Written.{written_seq}
use Rattle.grammar_check_nodes.specs.Flags.{flag}
use Rattle.grammar_check_parser_rules.specs.Empty.{seq_is_empty}
use Rattle.grammar_check_parser_rules.proofs.recursion.some_rest_can_be_empty.Given as goal

abbrev pub invariant-loop-terms : goal.invariant-loop-terms
invariant-loop-terms l =
    list_any (λ s. option_map_or (seq_is_empty (flag l.flags)) (rest_of l.number (resolved_seq l.names (written_seq (parser_terms s)))) false)
    (take l.terms-index l.terms-items) ≡ false
