-- Where the tokens of a text and their gaps are, as the code reads them.
use Rattle.std.proofs.Common.{◌≡◌, ℕ, suc, ◌-◌, ◌<◌, ◌≤◌, ◌≢◌, List, [], Some, slice_get, slice_index_or, length, map, sym, ap, ◌∙◌, subst, arith}
use Rattle.std.specs.List.{All}
use Rattle.std.specs.Option.{option_map, option_map_or}
use Rattle.std.proofs.lemmas.List.{get_or-map, length-map}
use Rattle.std.proofs.lemmas.Option.{slice_get-get_or, slice_get-map}
use Rattle.grammar_tree.specs.Lexes.{PlacedToken}
use Rattle.lexer.specs.Tokens.{token_of}
use Rattle.lexer.specs.declared.token.Token.{Token}
use Rattle.token_print.specs.LexingLaws.{IsSlice}
use Rattle.token_print.specs.Spelling.{gap_start, spelling, spelling_at}

module _ (text : List ℕ) (tokens : List Token) where
  pub there : (i : ℕ) (d : Token) → i < length tokens → slice_get (map token_of tokens) i ≡ Some (token_of (slice_index_or tokens i d))
  there i d h = slice_get-map token_of tokens i ∙ ap (option_map token_of) (slice_get-get_or tokens i d h)

  -- after a token its gap begins
  pub gap_after : (i : ℕ) (d : Token) → i ≢ 0 → i ≤ length tokens → (slice_index_or tokens (i - 1) d).end ≡ gap_start text (map token_of tokens) i
  gap_after i d some h =
      let before : i ≡ suc (i - 1) = omega (arith, some) in
      sym (ap (gap_start text (map token_of tokens)) before
      ∙ ap (λ o. option_map_or (λ (t : PlacedToken). t.end) o (length text)) (there (i - 1) d (omega (arith, some, h))))

  pub spelled : (i : ℕ) (d : Token) → i < length tokens → spelling text (token_of (slice_index_or tokens i d)) ≡ spelling_at text (map token_of tokens) i
  spelled i d h = sym (ap (λ o. option_map_or (spelling text) o []) (there i d h))

  -- each token is a slice
  pub slice : All (λ t. IsSlice text t.start t.end) (map token_of tokens) → (i : ℕ) (d : Token) → i < length tokens
      → IsSlice text (slice_index_or tokens i d).start (slice_index_or tokens i d).end
  slice slices i d h =
      let P : PlacedToken → Type 0 = λ t. IsSlice text t.start t.end in
      let same : slice_index_or (map token_of tokens) i (token_of d) ≡ token_of (slice_index_or tokens i d) = get_or-map token_of tokens i d (token_of d) h in
      subst P same (slices i (token_of d) (omega (arith, h, length-map tokens token_of)))
