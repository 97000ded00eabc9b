-- Whether an empty loop is in sequences and alternatives, by their parts.
use Rattle.std.proofs.Common.{◌≡◌, ℕ, Bool, ◌||◌, List, [], ◌∷◌, map, refl, ap, ◌∙◌}
use Rattle.std.specs.List.{list_any}
use Rattle.grammar_tree.specs.Derives.{resolved, resolved_alts, resolved_seq}
use Rattle.grammar_tree.specs.View.{parser_alts, parser_term, parser_terms}
use Rattle.grammar_tree.specs.Written.{WrittenGrammar, written_alts, written_seq}
use Rattle.grammar_tree.specs.declared.parser_term.ParserAlts.{ParserAlts, out-ParserAlts}
use Rattle.grammar_tree.specs.declared.parser_term.ParserTerm.{ParserTerm}
use Rattle.grammar_tree.specs.declared.parser_term.ParserTerms.{ParserTerms, out-ParserTerms}
use Rattle.grammar_check_parser_rules.specs.Loops.{alts_has_loop, has_loop, seq_has_loop}
use Rattle.grammar_check_parser_rules.proofs.Traversed.{alts_view, seq_view}

module _ (e : ℕ → Bool) (G : WrittenGrammar) where
  seq_by_terms : (ts : List ParserTerm) → seq_has_loop e (resolved_seq G (written_seq (map parser_term ts))) ≡ list_any
      (λ t. has_loop e (resolved G (parser_term t))) ts
  seq_by_terms [] = refl
  seq_by_terms (t ∷ ts) = ap (λ b. has_loop e (resolved G (parser_term t)) || b) (seq_by_terms ts)

  pub seq_by_any : (s : ParserTerms) → seq_has_loop e (resolved_seq G (written_seq (parser_terms s))) ≡ list_any (λ t. has_loop e (resolved G (parser_term t)))
      (out-ParserTerms s).items.items
  seq_by_any s = ap (λ ts. seq_has_loop e (resolved_seq G (written_seq ts))) (seq_view s) ∙ seq_by_terms (out-ParserTerms s).items.items

  alts_by_seqs : (ss : List ParserTerms) → alts_has_loop e (resolved_alts G (written_alts (map parser_terms ss))) ≡ list_any
      (λ s. seq_has_loop e (resolved_seq G (written_seq (parser_terms s)))) ss
  alts_by_seqs [] = refl
  alts_by_seqs (s ∷ ss) = ap (λ b. seq_has_loop e (resolved_seq G (written_seq (parser_terms s))) || b) (alts_by_seqs ss)

  pub alts_by_any : (a : ParserAlts) → alts_has_loop e (resolved_alts G (written_alts (parser_alts a))) ≡ list_any
      (λ s. seq_has_loop e (resolved_seq G (written_seq (parser_terms s)))) (out-ParserAlts a).items.items
  alts_by_any a = ap (λ ss. alts_has_loop e (resolved_alts G (written_alts ss))) (alts_view a) ∙ alts_by_seqs (out-ParserAlts a).items.items
