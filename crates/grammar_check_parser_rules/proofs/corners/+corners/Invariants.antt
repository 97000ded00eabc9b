use Rattle.std.proofs.Common.{◌≡◌, ◌++◌, take, drop}
use Rattle.std.specs.List.{flat_map}
use Rattle.grammar_tree.specs.declared.parser_term.ParserAlts.{out-ParserAlts}
use Rattle.grammar_tree.specs.Derives.{resolved_seq}
use Rattle.grammar_tree.specs.View.{parser_terms}
use Rattle.grammar_tree.specs.Written.{written_seq}
use Rattle.grammar_check_parser_rules.specs.Corners.{seq_corners}
use Rattle.grammar_check_nodes.specs.Flags.{flag}
use Rattle.grammar_check_parser_rules.proofs.corners.+corners.Given as goal

abbrev pub invariant-add_alts_corners-loop-i : goal.invariant-add_alts_corners-loop-i
invariant-add_alts_corners-loop-i l =
    l.found.items ≡ l.initial.found.items ++ flat_map (λ s. seq_corners (flag l.flags) (resolved_seq l.names (written_seq (parser_terms s))))
    (take l.i (out-ParserAlts l.alts).items.items)

abbrev pub invariant-add_seq_corners-loop-i : goal.invariant-add_seq_corners-loop-i
invariant-add_seq_corners-loop-i l =
    l.found.items ++ seq_corners (flag l.flags) (resolved_seq l.names (written_seq (drop l.i (parser_terms l.terms))))
    ≡ l.initial.found.items ++ seq_corners (flag l.flags) (resolved_seq l.names (written_seq (drop l.from (parser_terms l.terms))))
