-- Kept tokens, by their numbers from 0, and the texts that keep them.
use Rattle.std.specs.Prelude.{ℕ, ◌<◌, List, length}
use Rattle.std.specs.List.{All}
use Rattle.std.specs.List.Sorted.{IsStrictlyIncreasing}
use Rattle.grammar_tree.specs.Written.{WrittenGrammar}
use Rattle.grammar_tree.specs.Lexes.{PlacedToken}
use Rattle.token_print.specs.Spelling.{kinds_and_spellings}
use Rattle.token_print.specs.Spells.{SpellsTokens}

-- The numbers are those of tokens, and they rise strictly.
pub record AreKept (tokens : List PlacedToken) (kept : List ℕ) : Type 0 where
  pub rise : IsStrictlyIncreasing kept
  pub there : All (λ i. i < length tokens) kept

-- The text is cut into tokens with exactly the kinds and spellings of the kept tokens of the start, wherever they are in it.
abbrev pub KeepsTokens : WrittenGrammar → List ℕ → List PlacedToken → List ℕ → List ℕ → Type 0
KeepsTokens G start tokens kept text = SpellsTokens G text (kinds_and_spellings start tokens kept)
