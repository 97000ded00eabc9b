use Rattle.std.proofs.Common.{◌≡◌, ◌++◌, take}
use Rattle.std.specs.List.{flat_map}
use Rattle.grammar_tree.specs.Faults.{seq_names, term_names}
use Rattle.grammar_tree.specs.View.{lex_term, lex_terms}
use Rattle.grammar_tree.specs.Written.{lexer_seq}
use Rattle.grammar_tree.specs.declared.lex_term.LexAlts.{out-LexAlts}
use Rattle.grammar_tree.specs.declared.lex_term.LexTerms.{out-LexTerms}
use Rattle.grammar_check_lexer_rules.proofs.lexer_rules.+names.Given as goal

abbrev pub invariant-add_names-loop-i : goal.invariant-add_names-loop-i
invariant-add_names-loop-i l =
    l.found.items ≡ l.initial.found.items ++ flat_map (λ s. seq_names (lexer_seq (lex_terms s))) (take l.i (out-LexAlts l.alts).items.items)

abbrev pub invariant-add_seq_names-loop-i : goal.invariant-add_seq_names-loop-i
invariant-add_seq_names-loop-i l =
    l.found.items ≡ l.initial.found.items ++ flat_map (λ t. term_names (lex_term t)) (take l.i (out-LexTerms l.terms).items.items)
