use Rattle.std.proofs.Common.{◌≡◌, false, take}
use Rattle.std.specs.List.{list_any}
use Rattle.grammar_tree.specs.Faults.{has_eof, seq_has_eof}
use Rattle.grammar_tree.specs.View.{parser_term, parser_terms}
use Rattle.grammar_tree.specs.Written.{written_seq}
use Rattle.grammar_tree.specs.declared.parser_term.ParserAlts.{out-ParserAlts}
use Rattle.grammar_tree.specs.declared.parser_term.ParserTerms.{out-ParserTerms}
use Rattle.grammar_check_faults.proofs.eof.+eof.Given as goal

abbrev pub invariant-alts_have_eof-loop-i : goal.invariant-alts_have_eof-loop-i
invariant-alts_have_eof-loop-i l = list_any (λ s. seq_has_eof (written_seq (parser_terms s))) (take l.i (out-ParserAlts l.alts).items.items) ≡ false

abbrev pub invariant-terms_have_eof-loop-i : goal.invariant-terms_have_eof-loop-i
invariant-terms_have_eof-loop-i l = list_any (λ t. has_eof (parser_term t)) (take l.i (out-ParserTerms l.terms).items.items) ≡ false
