use Rattle.std.proofs.Common.{◌≡◌, ◌++◌, map, take}
use Rattle.std.specs.List.{flat_map}
use Rattle.grammar_tree.specs.declared.parser_term.ParserAlts.{out-ParserAlts}
use Rattle.grammar_tree.specs.declared.parser_term.ParserTerms.{out-ParserTerms}
use Rattle.grammar_tree.specs.Kinds.{seq_references, term_references}
use Rattle.grammar_tree.specs.View.{parser_term, parser_terms, token_ref}
use Rattle.grammar_tree.specs.Written.{written_seq}
use Rattle.grammar_check_parser_rules.proofs.references.+references.Given as goal

abbrev pub invariant-add_references-loop-i : goal.invariant-add_references-loop-i
invariant-add_references-loop-i l =
    map token_ref l.found.items ≡ map token_ref l.initial.found.items ++ flat_map (λ s. seq_references (written_seq (parser_terms s)))
    (take l.i (out-ParserAlts l.alts).items.items)

abbrev pub invariant-add_seq_references-loop-i : goal.invariant-add_seq_references-loop-i
invariant-add_seq_references-loop-i l =
    map token_ref l.found.items ≡ map token_ref l.initial.found.items ++ flat_map (λ t. term_references (parser_term t))
    (take l.i (out-ParserTerms l.terms).items.items)
