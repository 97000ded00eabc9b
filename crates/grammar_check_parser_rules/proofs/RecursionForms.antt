-- Bases and rests, by the alternatives.
use Rattle.std.proofs.Common.{◌≡◌, ◌<◌, ◌≤◌, ◌+◌, ℕ, suc, Bool, true, false, not, ◌||◌, ◌&&◌, List, [], ◌∷◌, ◌++◌, Option, Some, None}
use Rattle.std.proofs.Common.{is_some, length, map, drop, slice_index_or, refl, sym, ap, ◌∙◌, subst, arith}
use Rattle.std.specs.List.{flat_map, list_any}
use Rattle.std.specs.Option.{option_map_or}
use Rattle.grammar_tree.specs.Corners.{and_base, and_rest, bases, rest_of, rests}
use Rattle.grammar_tree.specs.Derives.{Seq, Alts, resolved, resolved_alts, resolved_seq}
use Rattle.grammar_tree.specs.View.{parser_alts, parser_term, parser_terms}
use Rattle.grammar_tree.specs.Written.{WrittenTerm, WrittenGrammar, written_alts, written_seq}
use Rattle.grammar_tree.specs.declared.parser_term.ParserAlts.{ParserAlts, out-ParserAlts}
use Rattle.grammar_tree.specs.declared.parser_term.ParserTerm.{ParserTerm}
use Rattle.grammar_tree.specs.declared.parser_term.ParserTerms.{ParserTerms, out-ParserTerms}
use Rattle.grammar_check_parser_rules.specs.Corners.{alts_corners, seq_corners}
use Rattle.grammar_check_parser_rules.specs.Empty.{alts_is_empty, is_empty, seq_is_empty}
use Rattle.grammar_check_parser_rules.specs.inner.Recursion.{is_empty_base}
use Rattle.grammar_check_parser_rules.proofs.CornerForms.{drop_at, drop_end}
use Rattle.grammar_check_parser_rules.proofs.Traversed.{alts_view, seq_view}

module _ (s : Seq) (a : Alts) where
  base_empty : (e : ℕ → Bool) (o : Option Seq) → alts_is_empty e (and_base s o a) ≡ ((not (is_some o) && seq_is_empty e s) || alts_is_empty e a)
  base_empty e None = refl
  base_empty e (Some rest) = refl

  rest_empty : (e : ℕ → Bool) (o : Option Seq) → alts_is_empty e (and_rest o a) ≡ (option_map_or (seq_is_empty e) o false || alts_is_empty e a)
  rest_empty e None = refl
  rest_empty e (Some rest) = refl

  base_corners : (e : ℕ → Bool) (o : Option Seq) → alts_corners e (and_base s o a) ≡ option_map_or (λ _. []) o (seq_corners e s) ++ alts_corners e a
  base_corners e None = refl
  base_corners e (Some rest) = refl

  rest_corners : (e : ℕ → Bool) (o : Option Seq) → alts_corners e (and_rest o a) ≡ option_map_or (seq_corners e) o [] ++ alts_corners e a
  rest_corners e None = refl
  rest_corners e (Some rest) = refl

module _ (G : WrittenGrammar) (r : ℕ) where
  abbrev seq : ParserTerms → Seq
  seq s = resolved_seq G (written_seq (parser_terms s))

  abbrev body : List ParserTerms → Alts
  body ss = resolved_alts G (written_alts (map parser_terms ss))

  abbrev alts : ParserAlts → Alts
  alts a = resolved_alts G (written_alts (parser_alts a))

  abbrev items : ParserAlts → List ParserTerms
  items a = (out-ParserAlts a).items.items

  alts_are : (a : ParserAlts) → alts a ≡ body (items a)
  alts_are a = ap (λ ss. resolved_alts G (written_alts ss)) (alts_view a)

  module _ (e : ℕ → Bool) where
    bases_empty : (ss : List ParserTerms) → alts_is_empty e (bases r (body ss)) ≡ list_any (λ s. is_empty_base e r (seq s)) ss
    bases_empty [] = refl
    bases_empty (s ∷ ss) = base_empty (seq s) (bases r (body ss)) e (rest_of r (seq s)) ∙ ap (λ b. is_empty_base e r (seq s) || b) (bases_empty ss)

    pub bases_by_any : (a : ParserAlts) → alts_is_empty e (bases r (alts a)) ≡ list_any (λ s. is_empty_base e r (seq s)) (items a)
    bases_by_any a = ap (λ b. alts_is_empty e (bases r b)) (alts_are a) ∙ bases_empty (items a)

    rests_empty : (ss : List ParserTerms) → alts_is_empty e (rests r (body ss)) ≡ list_any (λ s. option_map_or (seq_is_empty e) (rest_of r (seq s)) false) ss
    rests_empty [] = refl
    rests_empty (s ∷ ss) =
        rest_empty (seq s) (rests r (body ss)) e (rest_of r (seq s)) ∙ ap (λ b. option_map_or (seq_is_empty e) (rest_of r (seq s)) false || b) (rests_empty ss)

    pub rests_by_any : (a : ParserAlts) → alts_is_empty e (rests r (alts a)) ≡ list_any (λ s. option_map_or (seq_is_empty e) (rest_of r (seq s)) false)
        (items a)
    rests_by_any a = ap (λ b. alts_is_empty e (rests r b)) (alts_are a) ∙ rests_empty (items a)

    bases_corners : (ss : List ParserTerms) → alts_corners e (bases r (body ss)) ≡ flat_map
        (λ s. option_map_or (λ _. []) (rest_of r (seq s)) (seq_corners e (seq s))) ss
    bases_corners [] = refl
    bases_corners (s ∷ ss) =
        base_corners (seq s) (bases r (body ss)) e (rest_of r (seq s))
        ∙ ap (λ l. option_map_or (λ _. []) (rest_of r (seq s)) (seq_corners e (seq s)) ++ l) (bases_corners ss)

    pub base_corners_by_flat : (a : ParserAlts)
        → alts_corners e (bases r (alts a)) ≡ flat_map (λ s. option_map_or (λ _. []) (rest_of r (seq s)) (seq_corners e (seq s))) (items a)
    base_corners_by_flat a = ap (λ b. alts_corners e (bases r b)) (alts_are a) ∙ bases_corners (items a)

    rests_corners : (ss : List ParserTerms) → alts_corners e (rests r (body ss)) ≡ flat_map (λ s. option_map_or (seq_corners e) (rest_of r (seq s)) []) ss
    rests_corners [] = refl
    rests_corners (s ∷ ss) =
        rest_corners (seq s) (rests r (body ss)) e (rest_of r (seq s)) ∙ ap (λ l. option_map_or (seq_corners e) (rest_of r (seq s)) [] ++ l) (rests_corners ss)

    pub rest_corners_by_flat : (a : ParserAlts)
        → alts_corners e (rests r (alts a)) ≡ flat_map (λ s. option_map_or (seq_corners e) (rest_of r (seq s)) []) (items a)
    rest_corners_by_flat a = ap (λ b. alts_corners e (rests r b)) (alts_are a) ∙ rests_corners (items a)

-- the terms of a sequence from an index on
module _ (e : ℕ → Bool) (G : WrittenGrammar) where
  abbrev from : ParserTerms → ℕ → Bool
  from s i = seq_is_empty e (resolved_seq G (written_seq (drop i (parser_terms s))))

  pub empty_at : (s : ParserTerms) (i : ℕ) (t : ParserTerm) → i < length (out-ParserTerms s).items.items
      → t ≡ slice_index_or (out-ParserTerms s).items.items i t → from s i ≡ (is_empty e (resolved G (parser_term t)) && from s (i + 1))
  empty_at s i t lt is =
      let P : ℕ → Type 0 = λ j. from s i ≡ (is_empty e (resolved G (parser_term t)) && from s j) in
      let Q : List WrittenTerm → Type 0 =
      λ ts. seq_is_empty e (resolved_seq G (written_seq (drop i ts)))
      ≡ (is_empty e (resolved G (parser_term t)) && seq_is_empty e (resolved_seq G (written_seq (drop (suc i) ts)))) in
      let next : suc i ≡ i + 1 = omega arith in
      subst P next (subst Q (sym (seq_view s))
      (ap (λ ts. seq_is_empty e (resolved_seq G (written_seq ts))) (drop_at parser_term (out-ParserTerms s).items.items i t lt is)))

  pub empty_end : (s : ParserTerms) (i : ℕ) → length (out-ParserTerms s).items.items ≤ i → from s i ≡ true
  empty_end s i le =
      let Q : List WrittenTerm → Type 0 = λ ts. seq_is_empty e (resolved_seq G (written_seq (drop i ts))) ≡ true in
      subst Q (sym (seq_view s)) (ap (λ ts. seq_is_empty e (resolved_seq G (written_seq ts))) (drop_end parser_term (out-ParserTerms s).items.items i le))
