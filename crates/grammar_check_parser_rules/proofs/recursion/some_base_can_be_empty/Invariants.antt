use Rattle.std.proofs.Common.{◌≡◌, false, take}
use Rattle.std.specs.List.{list_any}
use Rattle.grammar_tree.specs.Derives.{resolved_seq}
use Rattle.grammar_tree.specs.View.{parser_terms}
use Rattle.grammar_tree.specs.Written.{written_seq}
use Rattle.grammar_check_nodes.specs.Flags.{flag}
use Rattle.grammar_check_parser_rules.specs.inner.Recursion.{is_empty_base}
use Rattle.grammar_check_parser_rules.proofs.recursion.some_base_can_be_empty.Given as goal

abbrev pub invariant-loop-terms : goal.invariant-loop-terms
invariant-loop-terms l =
    list_any (λ s. is_empty_base (flag l.flags) l.number (resolved_seq l.names (written_seq (parser_terms s)))) (take l.terms-index l.terms-items) ≡ false
