use Rattle.std.proofs.Common.{◌≡◌, true, false, take}
use Rattle.std.specs.List.{list_all, list_any}
use Rattle.grammar_tree.specs.declared.parser_term.ParserAlts.{out-ParserAlts}
use Rattle.grammar_tree.specs.declared.parser_term.ParserTerms.{out-ParserTerms}
use Rattle.grammar_tree.specs.Derives.{resolved, resolved_seq}
use Rattle.grammar_tree.specs.View.{parser_term, parser_terms}
use Rattle.grammar_tree.specs.Written.{written_seq}
use Rattle.grammar_check_nodes.specs.Flags.{flag}
use Rattle.grammar_check_parser_rules.specs.Empty.{is_empty, seq_is_empty}
use Rattle.grammar_check_parser_rules.proofs.empty.+empty.Given as goal

abbrev pub invariant-alts_can_be_empty-loop-i : goal.invariant-alts_can_be_empty-loop-i
invariant-alts_can_be_empty-loop-i l =
    list_any (λ s. seq_is_empty (flag l.flags) (resolved_seq l.names (written_seq (parser_terms s)))) (take l.i (out-ParserAlts l.alts).items.items) ≡ false

abbrev pub invariant-seq_can_be_empty-loop-i : goal.invariant-seq_can_be_empty-loop-i
invariant-seq_can_be_empty-loop-i l =
    list_all (λ t. is_empty (flag l.flags) (resolved l.names (parser_term t))) (take l.i (out-ParserTerms l.terms).items.items) ≡ true
