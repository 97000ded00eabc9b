use Rattle.std.proofs.Common.{◌≡◌, ◌+◌, map, drop}
use Rattle.grammar_tree.specs.Corners.{alts_new_rules, seq_new_rules}
use Rattle.grammar_tree.specs.Derives.{resolved_alts, resolved_seq}
use Rattle.grammar_tree.specs.View.{parser_term, parser_terms}
use Rattle.grammar_tree.specs.Written.{written_seq, written_alts}
use Rattle.grammar_check_recursion.proofs.counts.+count.Given as goal

abbrev pub invariant-count_terms-loop-term : goal.invariant-count_terms-loop-term
invariant-count_terms-loop-term l =
    l.count + seq_new_rules (resolved_seq l.names (written_seq (map parser_term (drop l.term-index l.term-items)))) ≡ seq_new_rules
    (resolved_seq l.names (written_seq (map parser_term l.term-items)))

abbrev pub invariant-count_alts-loop-alt : goal.invariant-count_alts-loop-alt
invariant-count_alts-loop-alt l =
    l.count + alts_new_rules (resolved_alts l.names (written_alts (map parser_terms (drop l.alt-index l.alt-items)))) ≡ alts_new_rules
    (resolved_alts l.names (written_alts (map parser_terms l.alt-items)))
