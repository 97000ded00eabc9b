-- Which of the alternatives of a rule matches.
use Rattle.std.proofs.Common.{◌≡◌, ◌<◌, ◌≤◌, ◌+◌, ◌↔◌, ℕ, suc, List, ◌∷◌, length, get_or, drop, map, sym, ap, ◌∙◌, subst, arith}
use Rattle.std.proofs.Math.Seq.{drop-cons}
use Rattle.std.proofs.lemmas.List.{drop_all}
use Rattle.grammar_tree.specs.Matches.{MatchesAlternative, MatchesRule}
use Rattle.grammar_tree.specs.Written.{LexerSeq, LexerAlts, LexerRule, lexer_alts, lexer_seq}
use Rattle.grammar_tree.specs.View.{lex_terms}
use Rattle.grammar_tree.specs.declared.lex_term.LexTerms.{LexTerms}

module _ (G : List LexerRule) (K : List ℕ) where
  -- the alternatives from the position i on match
  abbrev pub From : List LexTerms → ℕ → Type 0
  From items i = MatchesRule G (lexer_alts (map lex_terms (drop i items))) K

  first_of : (items : List LexTerms) (i : ℕ) (x : LexTerms) → i < length items → x ≡ get_or items i x
      → lexer_alts (map lex_terms (drop i items)) ≡ LexerAlts.or (lexer_seq (lex_terms x)) (lexer_alts (map lex_terms (drop (i + 1) items)))
  first_of items i x h e =
      let d : drop i items ≡ x ∷ drop (suc i) items = drop-cons items i x h ∙ ap (λ z. z ∷ drop (suc i) items) (sym e) in
      let n : suc i ≡ i + 1 = omega arith in
      ap (λ l. lexer_alts (map lex_terms l)) (d ∙ ap (λ m. x ∷ drop m items) n)

  pub this_one : (items : List LexTerms) (i : ℕ) (x : LexTerms) → i < length items → x ≡ get_or items i x → MatchesAlternative G (lexer_seq (lex_terms x)) K
      → From items i
  this_one items i x h e m =
      let P : LexerAlts → Type 0 = λ a. MatchesRule G a K in
      subst P (sym (first_of items i x h e)) (MatchesRule.by_first (lexer_seq (lex_terms x)) (lexer_alts (map lex_terms (drop (i + 1) items))) K m)

  later_one : (s : LexerSeq) (a : LexerAlts) → (MatchesAlternative G s K → ⊥) → MatchesRule G (LexerAlts.or s a) K → MatchesRule G a K
  later_one s a none (MatchesRule.by_first s' a' w m) = absurd (none m)
  later_one s a none (MatchesRule.by_later s' a' w m) = m

  pub not_this : (items : List LexTerms) (i : ℕ) (x : LexTerms) → i < length items → x ≡ get_or items i x
      → (MatchesAlternative G (lexer_seq (lex_terms x)) K → ⊥) → From items i ↔ From items (i + 1)
  not_this items i x h e none =
      let P : LexerAlts → Type 0 = λ a. MatchesRule G a K in
      let s = lexer_seq (lex_terms x) in
      let a = lexer_alts (map lex_terms (drop (i + 1) items)) in
      (λ m. later_one s a none (subst P (first_of items i x h e) m), λ m. subst P (sym (first_of items i x h e)) (MatchesRule.by_later s a K m))

  no_rule : MatchesRule G LexerAlts.none K → ⊥
  no_rule m = elim m [ ]

  pub none_left : (items : List LexTerms) (i : ℕ) → length items ≤ i → From items i → ⊥
  none_left items i h m = let P : List LexTerms → Type 0 = λ l. MatchesRule G (lexer_alts (map lex_terms l)) K in no_rule (subst P (drop_all i items h) m)
