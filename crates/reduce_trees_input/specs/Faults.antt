-- Why bytes aren't in the language of a grammar.
use Rattle.std.specs.Prelude.{◌≡◌, ℕ, ⊤, List}
use Rattle.std.specs.Str.{chars, IsUtf8}
use Rattle.std.specs.Str.Lossy.{utf8_valid_len}
use Rattle.grammar_tree.specs.Written.{CheckedGrammar}
use Rattle.grammar_tree.specs.Checked.{StartDerives}
use Rattle.grammar_tree.specs.Lexes.{PlacedToken, StopsAt}
use Rattle.lexer.specs.Tokens.{HasTokens}
use Rattle.reduce_trees_input.specs.Parsed.{kinds_in}
use Rattle.reduce_trees_input.specs.declared.fault.InputFault.{InputFault}
use Rattle.reduce_trees_input.specs.declared.fault.InputFault.TheVariants.{NotUtf8, NoToken, NoParse, Memory}

-- Their first ill-formed sequence is at the offset; or they are cut into pieces up to the offset, where no rule matches; or they have
-- tokens, whose kinds the start rule, as the grammar is written, doesn't derive. Out of memory says nothing of them.
abbrev pub IsInputFault : CheckedGrammar → List ℕ → InputFault → Type 0
IsInputFault grammar bytes (NotUtf8 offset) = (¬ IsUtf8 bytes) × (offset ≡ utf8_valid_len bytes)
IsInputFault grammar bytes (NoToken offset) = IsUtf8 bytes × StopsAt grammar.grammar (chars bytes) offset
IsInputFault grammar bytes NoParse =
    IsUtf8 bytes × ((tokens : List PlacedToken) × HasTokens grammar.grammar (chars bytes) tokens × (¬ StartDerives grammar (kinds_in tokens)))
IsInputFault grammar bytes (Memory _) = ⊤
