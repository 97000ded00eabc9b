use Rattle.std.proofs.Common.{◌≡◌, false, take}
use Rattle.std.specs.List.{list_any}
use Rattle.grammar_tree.specs.declared.parser_term.ParserAlts.{out-ParserAlts}
use Rattle.grammar_tree.specs.declared.parser_term.ParserTerms.{out-ParserTerms}
use Rattle.grammar_tree.specs.Derives.{resolved, resolved_seq}
use Rattle.grammar_tree.specs.View.{parser_term, parser_terms}
use Rattle.grammar_tree.specs.Written.{written_seq}
use Rattle.grammar_check_nodes.specs.Flags.{flag}
use Rattle.grammar_check_parser_rules.specs.Loops.{has_loop, seq_has_loop}
use Rattle.grammar_check_parser_rules.proofs.loops.+loops.Given as goal

abbrev pub invariant-alts_have_empty_loop-loop-i : goal.invariant-alts_have_empty_loop-loop-i
invariant-alts_have_empty_loop-loop-i l =
    list_any (λ s. seq_has_loop (flag l.flags) (resolved_seq l.names (written_seq (parser_terms s)))) (take l.i (out-ParserAlts l.alts).items.items) ≡ false

abbrev pub invariant-seq_has_empty_loop-loop-i : goal.invariant-seq_has_empty_loop-loop-i
invariant-seq_has_empty_loop-loop-i l =
    list_any (λ t. has_loop (flag l.flags) (resolved l.names (parser_term t))) (take l.i (out-ParserTerms l.terms).items.items) ≡ false
