use Rattle.std.proofs.Common.{◌≡◌, drop}
use Rattle.grammar_tree.specs.Faults.{is_misplaced_in}
use Rattle.grammar_tree.specs.View.{parser_terms}
use Rattle.grammar_tree.specs.Written.{written_seq}
use Rattle.grammar_check_faults.proofs.eof.terms_are_misplaced.Given as goal

abbrev pub invariant-loop-i : goal.invariant-loop-i
invariant-loop-i l = is_misplaced_in (written_seq (parser_terms l.terms)) ≡ is_misplaced_in (written_seq (drop l.i (parser_terms l.terms)))
