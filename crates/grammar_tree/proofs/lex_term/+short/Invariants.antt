use Rattle.std.proofs.Common.{◌≡◌, map, drop}
use Rattle.grammar_tree.specs.declared.lex_term.LexAlts.{out-LexAlts}
use Rattle.grammar_tree.specs.declared.lex_term.LexTerms.{out-LexTerms}
use Rattle.grammar_tree.specs.Matches.{any_is_short, is_short}
use Rattle.grammar_tree.specs.View.{lex_term, lex_terms}
use Rattle.grammar_tree.specs.Written.{lexer_alts, lexer_seq}
use Rattle.grammar_tree.proofs.lex_term.+short.Given as goal

abbrev pub invariant-LexTerms::is_short-loop-i : goal.invariant-LexTerms::is_short-loop-i
invariant-LexTerms::is_short-loop-i l =
    is_short (lexer_seq (map lex_term (drop l.i (out-LexTerms l.self).items.items))) ≡ is_short (lexer_seq (map lex_term (out-LexTerms l.self).items.items))

abbrev pub invariant-LexAlts::any_is_short-loop-i : goal.invariant-LexAlts::any_is_short-loop-i
invariant-LexAlts::any_is_short-loop-i l =
    any_is_short (lexer_alts (map lex_terms (drop l.i (out-LexAlts l.self).items.items))) ≡ any_is_short
    (lexer_alts (map lex_terms (out-LexAlts l.self).items.items))
