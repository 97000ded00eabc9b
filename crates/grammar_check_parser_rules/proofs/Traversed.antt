-- Loops over the terms of a sequence, and over alternatives.
use Rattle.std.proofs.Common.{◌≡◌, ◌<◌, ◌≤◌, ℕ, zero, suc, Bool, true, false, ◌||◌, ◌&&◌, List, [], ◌∷◌}
use Rattle.std.proofs.Common.{length, map, take, slice_index_or, refl, sym, ap, ◌∙◌, arith}
use Rattle.std.specs.List.{list_all, list_any}
use Rattle.std.proofs.Common.{take_all}
use Rattle.grammar_tree.specs.declared.parser_term.ParserAlts.{ParserAlts, out-ParserAlts, fold_out-ParserAlts}
use Rattle.grammar_tree.specs.declared.parser_term.ParserTerms.{ParserTerms, out-ParserTerms, fold_out-ParserTerms}
use Rattle.grammar_tree.specs.View.{parser_alts, parser_alts_node, parser_node, parser_seq_node, parser_term, parser_terms}
use Rattle.grammar_tree.specs.Written.{WrittenTerm}

pub seq_view : (s : ParserTerms) → parser_terms s ≡ map parser_term (out-ParserTerms s).items.items
seq_view s = fold_out-ParserTerms WrittenTerm (List (List WrittenTerm)) (List WrittenTerm) parser_node parser_alts_node parser_seq_node s

pub alts_view : (a : ParserAlts) → parser_alts a ≡ map parser_terms (out-ParserAlts a).items.items
alts_view a = fold_out-ParserAlts WrittenTerm (List (List WrittenTerm)) (List WrittenTerm) parser_node parser_alts_node parser_seq_node a

module _ {X : Type 0} (p : X → Bool) where
  pub all_fails : (xs : List X) (i : ℕ) (x : X) → i < length xs → x ≡ slice_index_or xs i x → p x ≡ false → list_all p xs ≡ false
  all_fails [] i x lt e h = absurd (omega (arith, lt))
  all_fails (y ∷ xs) zero x lt e h = ap (λ b. b && list_all p xs) (ap p (sym e) ∙ h)
  all_fails (y ∷ xs) (suc i) x lt e h = ap (λ b. p y && b) (all_fails xs i x (omega arith) e h) ∙ no_more (p y)
    where
      no_more : (b : Bool) → (b && false) ≡ false
      no_more true = refl
      no_more false = refl

  pub any_passes : (xs : List X) (i : ℕ) (x : X) → i < length xs → x ≡ slice_index_or xs i x → p x ≡ true → list_any p xs ≡ true
  any_passes [] i x lt e h = absurd (omega (arith, lt))
  any_passes (y ∷ xs) zero x lt e h = ap (λ b. b || list_any p xs) (ap p (sym e) ∙ h)
  any_passes (y ∷ xs) (suc i) x lt e h = ap (λ b. p y || b) (any_passes xs i x (omega arith) e h) ∙ some_more (p y)
    where
      some_more : (b : Bool) → (b || true) ≡ true
      some_more true = refl
      some_more false = refl

  pub all_pass : (xs : List X) (n : ℕ) → length xs ≤ n → list_all p (take n xs) ≡ true → list_all p xs ≡ true
  all_pass xs n le h = ap (list_all p) (sym (take_all n xs le)) ∙ h

  pub none_passes : (xs : List X) (n : ℕ) → length xs ≤ n → list_any p (take n xs) ≡ false → list_any p xs ≡ false
  none_passes xs n le h = ap (list_any p) (sym (take_all n xs le)) ∙ h
