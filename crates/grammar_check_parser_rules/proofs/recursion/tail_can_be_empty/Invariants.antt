use Rattle.std.proofs.Common.{◌≡◌, drop}
use Rattle.grammar_tree.specs.Derives.{resolved_seq}
use Rattle.grammar_tree.specs.View.{parser_terms}
use Rattle.grammar_tree.specs.Written.{written_seq}
use Rattle.grammar_check_nodes.specs.Flags.{flag}
use Rattle.grammar_check_parser_rules.specs.Empty.{seq_is_empty}
use Rattle.grammar_check_parser_rules.proofs.recursion.tail_can_be_empty.Given as goal

abbrev pub invariant-loop-i : goal.invariant-loop-i
invariant-loop-i l =
    seq_is_empty (flag l.flags) (resolved_seq l.names (written_seq (drop 1 (parser_terms l.terms))))
    ≡ seq_is_empty (flag l.flags) (resolved_seq l.names (written_seq (drop l.i (parser_terms l.terms))))
