-- Left corners of sequences and alternatives, by their parts.
use Rattle.std.proofs.Common.{◌≡◌, ◌+◌, ◌<◌, ◌≤◌, ℕ, zero, suc, Bool, true, false, List, [], ◌∷◌, ◌++◌, length, map, drop}
use Rattle.std.proofs.Common.{slice_index_or, refl, sym, ap, ◌∙◌, subst, arith, append_assoc, append-nil, if◌then◌else◌}
use Rattle.std.specs.List.{flat_map}
use Rattle.grammar_tree.specs.Derives.{resolved, resolved_alts, resolved_seq}
use Rattle.grammar_tree.specs.View.{parser_alts, parser_term, parser_terms}
use Rattle.grammar_tree.specs.Written.{WrittenTerm, WrittenGrammar, written_alts, written_seq}
use Rattle.grammar_tree.specs.declared.parser_term.ParserAlts.{ParserAlts, out-ParserAlts}
use Rattle.grammar_tree.specs.declared.parser_term.ParserTerm.{ParserTerm}
use Rattle.grammar_tree.specs.declared.parser_term.ParserTerms.{ParserTerms, out-ParserTerms}
use Rattle.grammar_check_parser_rules.specs.Corners.{alts_corners, corners, seq_corners}
use Rattle.grammar_check_parser_rules.specs.Empty.{is_empty}
use Rattle.grammar_check_parser_rules.proofs.Traversed.{alts_view, seq_view}

module _ {X Y : Type 0} (f : X → Y) where
  pub drop_at : (xs : List X) (i : ℕ) (x : X) → i < length xs → x ≡ slice_index_or xs i x → drop i (map f xs) ≡ f x ∷ drop (suc i) (map f xs)
  drop_at [] i x lt e = absurd (omega (arith, lt))
  drop_at (y ∷ xs) zero x lt e = ap (λ z. f z ∷ map f xs) (sym e)
  drop_at (y ∷ xs) (suc i) x lt e = drop_at xs i x (omega arith) e

  pub drop_end : (xs : List X) (i : ℕ) → length xs ≤ i → drop i (map f xs) ≡ []
  drop_end [] zero le = refl
  drop_end [] (suc i) le = refl
  drop_end (y ∷ xs) zero le = absurd (omega (arith, le))
  drop_end (y ∷ xs) (suc i) le = drop_end xs i (omega arith)

module _ (e : ℕ → Bool) (G : WrittenGrammar) where
  abbrev first : ParserTerm → List ℕ
  first t = corners e (resolved G (parser_term t))

  abbrev from : ParserTerms → ℕ → List ℕ
  from s i = seq_corners e (resolved_seq G (written_seq (drop i (parser_terms s))))

  pub seq_at : (s : ParserTerms) (i : ℕ) (t : ParserTerm) → i < length (out-ParserTerms s).items.items → t ≡ slice_index_or (out-ParserTerms s).items.items i t
      →
      from s i ≡ first t ++ (if is_empty e (resolved G (parser_term t)) then from s (i + 1) else [])
  seq_at s i t lt is =
      let items = (out-ParserTerms s).items.items in
      let P : ℕ → Type 0 = λ j. from s i ≡ first t ++ (if is_empty e (resolved G (parser_term t)) then from s j else []) in
      let Q : List WrittenTerm → Type 0 =
      λ ts. seq_corners e (resolved_seq G (written_seq (drop i ts))) ≡ first t
      ++ (if is_empty e (resolved G (parser_term t)) then seq_corners e (resolved_seq G (written_seq (drop (suc i) ts))) else []) in
      let next : suc i ≡ i + 1 = omega arith in
      subst P next (subst Q (sym (seq_view s)) (ap (λ ts. seq_corners e (resolved_seq G (written_seq ts))) (drop_at parser_term items i t lt is)))

  pub seq_end : (s : ParserTerms) (i : ℕ) → length (out-ParserTerms s).items.items ≤ i → from s i ≡ []
  seq_end s i le =
      let Q : List WrittenTerm → Type 0 = λ ts. seq_corners e (resolved_seq G (written_seq (drop i ts))) ≡ [] in
      subst Q (sym (seq_view s)) (ap (λ ts. seq_corners e (resolved_seq G (written_seq ts))) (drop_end parser_term (out-ParserTerms s).items.items i le))

  -- one term more, which can be empty or not
  pub stops : (s : ParserTerms) (i : ℕ) (t : ParserTerm) (found old whole : List ℕ) → i < length (out-ParserTerms s).items.items
      → t ≡ slice_index_or (out-ParserTerms s).items.items i t →
      is_empty e (resolved G (parser_term t)) ≡ false → found ++ from s i ≡ old ++ whole → found ++ first t ≡ old ++ whole
  stops s i t found old whole lt is h so_far =
      let cut : from s i ≡ first t = seq_at s i t lt is ∙ ap (λ b. first t ++ (if b then from s (i + 1) else [])) h ∙ append-nil (first t) in
      ap (λ l. found ++ l) (sym cut) ∙ so_far

  pub goes_on : (s : ParserTerms) (i : ℕ) (t : ParserTerm) (found old whole : List ℕ) → i < length (out-ParserTerms s).items.items
      → t ≡ slice_index_or (out-ParserTerms s).items.items i t →
      is_empty e (resolved G (parser_term t)) ≡ true → found ++ from s i ≡ old ++ whole → (found ++ first t) ++ from s (i + 1) ≡ old ++ whole
  goes_on s i t found old whole lt is h so_far =
      let cut : from s i ≡ first t ++ from s (i + 1) = seq_at s i t lt is ∙ ap (λ b. first t ++ (if b then from s (i + 1) else [])) h in
      append_assoc found (first t) (from s (i + 1)) ∙ ap (λ l. found ++ l) (sym cut) ∙ so_far

  alts_by_seqs : (ss : List ParserTerms) → alts_corners e (resolved_alts G (written_alts (map parser_terms ss))) ≡ flat_map
      (λ s. seq_corners e (resolved_seq G (written_seq (parser_terms s)))) ss
  alts_by_seqs [] = refl
  alts_by_seqs (s ∷ ss) = ap (λ l. seq_corners e (resolved_seq G (written_seq (parser_terms s))) ++ l) (alts_by_seqs ss)

  pub alts_by_flat : (a : ParserAlts) → alts_corners e (resolved_alts G (written_alts (parser_alts a))) ≡ flat_map
      (λ s. seq_corners e (resolved_seq G (written_seq (parser_terms s)))) (out-ParserAlts a).items.items
  alts_by_flat a = ap (λ ss. alts_corners e (resolved_alts G (written_alts ss))) (alts_view a) ∙ alts_by_seqs (out-ParserAlts a).items.items
