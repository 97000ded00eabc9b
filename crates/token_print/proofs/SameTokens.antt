-- When tokens have the kinds and spellings of the kept ones.
use Rattle.std.proofs.Common.{◌≡◌, ℕ, zero, suc, ◌<◌, List, [], ◌∷◌, slice_get, slice_index_or, length, map, refl, sym, ap, ap₂, ◌∙◌, arith}
use Rattle.std.specs.List.{All, cons_option, filter_map}
use Rattle.std.proofs.lemmas.List.{get_or-map, length-map}
use Rattle.std.proofs.lemmas.List.Elements.{All-head, All-tail}
use Rattle.grammar_tree.specs.Lexes.{Piece}
use Rattle.lexer.specs.Tokens.{token_of}
use Rattle.lexer.specs.declared.token.Token.{Token}
use Rattle.token_print.specs.Spelling.{kind_and_spelling, kinds_and_spellings}
use Rattle.token_print.proofs.Offsets.{there}

abbrev pub no_token : Token
no_token = record { kind = 0; start = 0; end = 0 }

module _ (text : List ℕ) (start : List ℕ) (tokens : List Token) where
  -- the kind and spelling of a found token, and of a kept one
  abbrev pub found_one : Token → Piece
  found_one t = kind_and_spelling text (token_of t)

  abbrev pub kept_one : ℕ → Piece
  kept_one i = kind_and_spelling start (token_of (slice_index_or tokens i no_token))

  pub all_kept : (kept : List ℕ) → All (λ i. i < length tokens) kept → kinds_and_spellings start (map token_of tokens) kept ≡ map kept_one kept
  all_kept [] all = refl
  all_kept (i ∷ kept) all =
      let P : ℕ → Type 0 = λ n. n < length tokens in
      let later = filter_map (slice_get (map token_of tokens)) kept in
      ap (λ o. map (kind_and_spelling start) (cons_option o later)) (there start tokens i no_token (All-head P i kept all))
      ∙ ap (λ l. kept_one i ∷ l) (all_kept kept (All-tail P i kept all))

  all_found : (found : List Token) → map (kind_and_spelling text) (map token_of found) ≡ map found_one found
  all_found [] = refl
  all_found (t ∷ found) = ap (λ l. found_one t ∷ l) (all_found found)

  each : (found : List Token) (kept : List ℕ) → length found ≡ length kept
      → ((k : ℕ) → k < length kept → found_one (slice_index_or found k no_token) ≡ kept_one (slice_index_or kept k 0)) → map found_one found ≡ map kept_one kept
  each [] [] e same = refl
  each [] (i ∷ kept) e same = absurd (omega (arith, e))
  each (t ∷ found) [] e same = absurd (omega (arith, e))
  each (t ∷ found) (i ∷ kept) e same =
      ap₂ ◌∷◌ (same zero (omega arith)) (each found kept (omega (arith, e)) (λ k h. same (suc k) (omega (arith, h))))

  module _ (found : List Token) (kept : List ℕ) (all : All (λ i. i < length tokens) kept) where
    abbrev pub AreSame : Type 0
    AreSame = map (kind_and_spelling text) (map token_of found) ≡ kinds_and_spellings start (map token_of tokens) kept

    as_lists : AreSame → map found_one found ≡ map kept_one kept
    as_lists same = sym (all_found found) ∙ same ∙ all_kept kept all

    pub all_same : length found ≡ length kept → ((k : ℕ) → k < length kept → found_one (slice_index_or found k no_token) ≡ kept_one (slice_index_or kept k 0))
        → AreSame
    all_same e same = all_found found ∙ each found kept e same ∙ sym (all_kept kept all)

    pub same_length : AreSame → length found ≡ length kept
    same_length same = sym (length-map found found_one) ∙ ap length (as_lists same) ∙ length-map kept kept_one

    pub same_at : AreSame → (k : ℕ) → k < length kept → found_one (slice_index_or found k no_token) ≡ kept_one (slice_index_or kept k 0)
    same_at same k h =
        sym (get_or-map found_one found k no_token (found_one no_token) (omega (arith, h, same_length same)))
        ∙ ap (λ l. slice_index_or l k (found_one no_token)) (as_lists same)
        ∙ get_or-map kept_one kept k 0 (found_one no_token) h
