-- How many tokens a text has.
use Rattle.std.specs.Prelude.{◌≡◌, ℕ, List, length}
use Rattle.grammar_tree.specs.Lexes.{PlacedToken}
use Rattle.grammar_tree.specs.Written.{WrittenGrammar}
use Rattle.lexer.specs.Tokens.{HasTokens}

-- the text has so many tokens
abbrev pub CountsTokens : WrittenGrammar → List ℕ → ℕ → Type 0
CountsTokens G text count = (tokens : List PlacedToken) × HasTokens G text tokens × (count ≡ length tokens)
