use Rattle.std.proofs.Common.{◌≡◌, true, false, map, take}
use Rattle.std.specs.List.{list_all, list_any}
use Rattle.grammar_tree.specs.GrammarView.{rule_of}
use Rattle.grammar_tree.specs.View.{lex_term, lex_terms}
use Rattle.grammar_tree.specs.Written.{lexer_seq}
use Rattle.grammar_tree.specs.declared.lex_term.LexAlts.{out-LexAlts}
use Rattle.grammar_tree.specs.declared.lex_term.LexTerms.{out-LexTerms}
use Rattle.grammar_check_nodes.specs.Flags.{flag}
use Rattle.grammar_check_lexer_rules.specs.Lexer.{lexer_is_empty, lexer_index, lexer_seq_is_empty}
use Rattle.grammar_check_lexer_rules.proofs.lexer_rules.+lexer_empty.Given as goal

abbrev pub invariant-alts_can_be_empty-loop-i : goal.invariant-alts_can_be_empty-loop-i
invariant-alts_can_be_empty-loop-i l =
    list_any (λ s. lexer_seq_is_empty (lexer_index (map rule_of l.names.rules.now)) (flag l.flags) (lexer_seq (lex_terms s)))
    (take l.i (out-LexAlts l.alts).items.items) ≡ false

abbrev pub invariant-seq_can_be_empty-loop-i : goal.invariant-seq_can_be_empty-loop-i
invariant-seq_can_be_empty-loop-i l =
    list_all (λ t. lexer_is_empty (lexer_index (map rule_of l.names.rules.now)) (flag l.flags) (lex_term t)) (take l.i (out-LexTerms l.terms).items.items)
    ≡ true
