-- Texts that are cut into given tokens, whatever their gap text is.
use Rattle.std.specs.Prelude.{◌≡◌, ◌↔◌, ℕ, List, map}
use Rattle.std.specs.Str.{chars, IsUtf8}
use Rattle.grammar_tree.specs.Written.{WrittenGrammar}
use Rattle.grammar_tree.specs.Lexes.{Piece, PlacedToken}
use Rattle.lexer.specs.Tokens.{HasTokens}
use Rattle.token_print.specs.Spelling.{kind_and_spelling}

-- The text is UTF-8 and is cut into tokens with exactly these kinds and spellings, in this order. Its gap text is free.
pub record SpellsTokens (G : WrittenGrammar) (text : List ℕ) (spelled : List Piece) : Type 0 where
  pub utf8 : IsUtf8 text
  pub tokens : List PlacedToken
  pub has : HasTokens G (chars text) tokens
  pub same : map (kind_and_spelling text) tokens ≡ spelled

-- A text spells one list of tokens at most.
abbrev pub SpelledOneWay : Type 0
SpelledOneWay = (G : WrittenGrammar) (text : List ℕ) (spelled others : List Piece) → SpellsTokens G text spelled → SpellsTokens G text others → spelled ≡ others

-- A text that spells these tokens has tokens of these kinds.
abbrev pub SpelledKinds : Type 0
SpelledKinds = (G : WrittenGrammar) (text : List ℕ) (spelled : List Piece) → SpellsTokens G text spelled →
    (tokens : List PlacedToken) × HasTokens G (chars text) tokens × (map (λ (t : PlacedToken). t.kind) tokens ≡ map (λ (p : Piece). p.kind) spelled)

-- Texts are equal as characters exactly where they are equal as bytes.
abbrev pub EqualCharactersEqualBytes : Type 0
EqualCharactersEqualBytes = (u v : List ℕ) → IsUtf8 u → IsUtf8 v → (chars u ≡ chars v) ↔ (u ≡ v)
