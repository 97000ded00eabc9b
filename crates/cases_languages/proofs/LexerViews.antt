-- What contracts see of alternatives of lexer rules and of their terms, as equations.
use Rattle.std.proofs.Common.{◌≡◌, List, map}
use Rattle.grammar_tree.specs.Written.{LexerTerm}
use Rattle.grammar_tree.specs.View.{lex_term, lex_terms, lex_alts, lex_node, lex_seq_node, lex_alts_node}
use Rattle.grammar_tree.specs.declared.lex_term.LexAlts.{LexAlts, out-LexAlts, fold_out-LexAlts}
use Rattle.grammar_tree.specs.declared.lex_term.LexTerms.{LexTerms, out-LexTerms, fold_out-LexTerms}

pub lex_terms_out : (s : LexTerms) → lex_terms s ≡ map lex_term (out-LexTerms s).items.items
lex_terms_out = fold_out-LexTerms LexerTerm (List (List LexerTerm)) (List LexerTerm) lex_node lex_alts_node lex_seq_node

pub lex_alts_out : (a : LexAlts) → lex_alts a ≡ map lex_terms (out-LexAlts a).items.items
lex_alts_out = fold_out-LexAlts LexerTerm (List (List LexerTerm)) (List LexerTerm) lex_node lex_alts_node lex_seq_node
