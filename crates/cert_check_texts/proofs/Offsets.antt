-- The tokens of a text, as the code reads them.
use Rattle.std.proofs.Common.{◌≡◌, ◌⊎◌, inl, inr, ℕ, ◌<◌, ◌≤◌, List, [], All, Option, Some, None}
use Rattle.std.proofs.Common.{get_or, slice_get, slice_index_or, length, map, sym, ap, ◌∙◌, arith}
use Rattle.std.specs.List.{Contains}
use Rattle.std.specs.Option.{option_map, option_map_or}
use Rattle.std.proofs.lemmas.List.Edits.{length-between}
use Rattle.std.proofs.lemmas.List.Elements.{All-contains}
use Rattle.std.proofs.lemmas.Option.{slice_get-get_or, slice_get-map, slice_get_cases}
use Rattle.grammar_tree.specs.Lexes.{PlacedToken}
use Rattle.lexer.specs.Tokens.{token_of}
use Rattle.lexer.specs.declared.token.Token.{Token}
use Rattle.token_print.specs.LexingLaws.{AreInOrder, IsSlice}
use Rattle.token_print.specs.Spelling.{spelling, spelling_at}
use Rattle.token_print.proofs.Lent.{slice}

module _ (text : List ℕ) (tokens : List Token) where
  pub spelled : (i : ℕ) (d : Token) → i < length tokens → spelling text (token_of (slice_index_or tokens i d)) ≡ spelling_at text (map token_of tokens) i
  spelled i d h =
      sym (ap (λ (o : Option PlacedToken). option_map_or (spelling text) o [])
      (slice_get-map token_of tokens i ∙ ap (option_map token_of) (slice_get-get_or tokens i d h)))

  pub slices : AreInOrder text (map token_of tokens) → All (λ (t : Token). IsSlice text t.start t.end) tokens
  slices order i d h = slice text tokens order.slices i d h

-- no spelling is empty
pub some_byte : (text : List ℕ) (tokens : List PlacedToken) → AreInOrder text tokens → (i : ℕ) → i < length tokens → 0 < length (spelling_at text tokens i)
some_byte text tokens order i h = by (slice_get_cases tokens i).1
  where
    of_token : (t : PlacedToken) → Contains tokens t → 0 < length (spelling text t)
    of_token t among =
        let P : PlacedToken → Type 0 = λ t. IsSlice text t.start t.end in
        let Q : PlacedToken → Type 0 = λ t. t.start < t.end in
        let is = All-contains P tokens t order.slices among in
        let some = All-contains Q tokens t order.not_empty among in
        omega (arith, some, length-between text t.start t.end is.within)

    by : ((t : PlacedToken) × (i < length tokens) × (slice_get tokens i ≡ Some t) × (get_or tokens i t ≡ t))
        ⊎ ((length tokens ≤ i) × (slice_get tokens i ≡ None)) → 0 < length (spelling_at text tokens i)
    by (inl (t, within, is, at)) = omega (arith, ap length (ap (λ (o : Option PlacedToken). option_map_or (spelling text) o []) is), of_token t (i, within, at))
    by (inr (past, none)) = absurd (omega (arith, h, past))
