-- Lexer terms, by their parts.
use Rattle.std.proofs.Common.{◌≡◌, ℕ, Bool, ◌||◌, ◌&&◌, List, [], ◌∷◌, ◌++◌, Option, map, refl, ap, ◌∙◌}
use Rattle.std.specs.List.{flat_map, list_all, list_any}
use Rattle.grammar_tree.specs.Faults.{seq_names, term_names, used_names}
use Rattle.grammar_tree.specs.View.{lex_alts, lex_alts_node, lex_node, lex_seq_node, lex_term, lex_terms}
use Rattle.grammar_tree.specs.Written.{LexerTerm, lexer_alts, lexer_seq}
use Rattle.grammar_tree.specs.declared.lex_term.LexAlts.{LexAlts, out-LexAlts, fold_out-LexAlts}
use Rattle.grammar_tree.specs.declared.lex_term.LexTerm.{LexTerm}
use Rattle.grammar_tree.specs.declared.lex_term.LexTerms.{LexTerms, out-LexTerms, fold_out-LexTerms}
use Rattle.grammar_check_lexer_rules.specs.Lexer.{lexer_alts_are_empty, lexer_alts_have_loop, lexer_has_loop}
use Rattle.grammar_check_lexer_rules.specs.Lexer.{lexer_is_empty, lexer_seq_has_loop, lexer_seq_is_empty}

seq_view : (s : LexTerms) → lex_terms s ≡ map lex_term (out-LexTerms s).items.items
seq_view s = fold_out-LexTerms LexerTerm (List (List LexerTerm)) (List LexerTerm) lex_node lex_alts_node lex_seq_node s

alts_view : (a : LexAlts) → lex_alts a ≡ map lex_terms (out-LexAlts a).items.items
alts_view a = fold_out-LexAlts LexerTerm (List (List LexerTerm)) (List LexerTerm) lex_node lex_alts_node lex_seq_node a

module _ (f : List ℕ → Option ℕ) (e : ℕ → Bool) where
  empty_terms : (ts : List LexTerm) → lexer_seq_is_empty f e (lexer_seq (map lex_term ts)) ≡ list_all (λ t. lexer_is_empty f e (lex_term t)) ts
  empty_terms [] = refl
  empty_terms (t ∷ ts) = ap (λ x. lexer_is_empty f e (lex_term t) && x) (empty_terms ts)

  pub empty_seq : (s : LexTerms) → lexer_seq_is_empty f e (lexer_seq (lex_terms s)) ≡ list_all (λ t. lexer_is_empty f e (lex_term t))
      (out-LexTerms s).items.items
  empty_seq s = ap (λ ts. lexer_seq_is_empty f e (lexer_seq ts)) (seq_view s) ∙ empty_terms (out-LexTerms s).items.items

  empty_seqs : (ss : List LexTerms) → lexer_alts_are_empty f e (lexer_alts (map lex_terms ss)) ≡ list_any
      (λ s. lexer_seq_is_empty f e (lexer_seq (lex_terms s))) ss
  empty_seqs [] = refl
  empty_seqs (s ∷ ss) = ap (λ x. lexer_seq_is_empty f e (lexer_seq (lex_terms s)) || x) (empty_seqs ss)

  pub empty_alts : (a : LexAlts) → lexer_alts_are_empty f e (lexer_alts (lex_alts a)) ≡ list_any (λ s. lexer_seq_is_empty f e (lexer_seq (lex_terms s)))
      (out-LexAlts a).items.items
  empty_alts a = ap (λ ss. lexer_alts_are_empty f e (lexer_alts ss)) (alts_view a) ∙ empty_seqs (out-LexAlts a).items.items

module _ (f : List ℕ → Option ℕ) (e : ℕ → Bool) where
  loop_terms : (ts : List LexTerm) → lexer_seq_has_loop f e (lexer_seq (map lex_term ts)) ≡ list_any (λ t. lexer_has_loop f e (lex_term t)) ts
  loop_terms [] = refl
  loop_terms (t ∷ ts) = ap (λ x. lexer_has_loop f e (lex_term t) || x) (loop_terms ts)

  pub loop_seq : (s : LexTerms) → lexer_seq_has_loop f e (lexer_seq (lex_terms s)) ≡ list_any (λ t. lexer_has_loop f e (lex_term t))
      (out-LexTerms s).items.items
  loop_seq s = ap (λ ts. lexer_seq_has_loop f e (lexer_seq ts)) (seq_view s) ∙ loop_terms (out-LexTerms s).items.items

  loop_seqs : (ss : List LexTerms) → lexer_alts_have_loop f e (lexer_alts (map lex_terms ss)) ≡ list_any
      (λ s. lexer_seq_has_loop f e (lexer_seq (lex_terms s))) ss
  loop_seqs [] = refl
  loop_seqs (s ∷ ss) = ap (λ x. lexer_seq_has_loop f e (lexer_seq (lex_terms s)) || x) (loop_seqs ss)

  pub loop_alts : (a : LexAlts) → lexer_alts_have_loop f e (lexer_alts (lex_alts a)) ≡ list_any (λ s. lexer_seq_has_loop f e (lexer_seq (lex_terms s)))
      (out-LexAlts a).items.items
  loop_alts a = ap (λ ss. lexer_alts_have_loop f e (lexer_alts ss)) (alts_view a) ∙ loop_seqs (out-LexAlts a).items.items

names_terms : (ts : List LexTerm) → seq_names (lexer_seq (map lex_term ts)) ≡ flat_map (λ t. term_names (lex_term t)) ts
names_terms [] = refl
names_terms (t ∷ ts) = ap (λ x. term_names (lex_term t) ++ x) (names_terms ts)

pub names_seq : (s : LexTerms) → seq_names (lexer_seq (lex_terms s)) ≡ flat_map (λ t. term_names (lex_term t)) (out-LexTerms s).items.items
names_seq s = ap (λ ts. seq_names (lexer_seq ts)) (seq_view s) ∙ names_terms (out-LexTerms s).items.items

names_seqs : (ss : List LexTerms) → used_names (lexer_alts (map lex_terms ss)) ≡ flat_map (λ s. seq_names (lexer_seq (lex_terms s))) ss
names_seqs [] = refl
names_seqs (s ∷ ss) = ap (λ x. seq_names (lexer_seq (lex_terms s)) ++ x) (names_seqs ss)

pub names_alts : (a : LexAlts) → used_names (lexer_alts (lex_alts a)) ≡ flat_map (λ s. seq_names (lexer_seq (lex_terms s))) (out-LexAlts a).items.items
names_alts a = ap (λ ss. used_names (lexer_alts ss)) (alts_view a) ∙ names_seqs (out-LexAlts a).items.items
