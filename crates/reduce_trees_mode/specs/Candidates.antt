-- Which texts may be asked.
use Rattle.std.specs.Prelude.{ℕ, List, IsTrue, map}
use Rattle.std.specs.Str.{chars, IsUtf8}
use Rattle.grammar_tree.specs.Written.{CheckedGrammar}
use Rattle.grammar_tree.specs.Checked.{StartDerives}
use Rattle.grammar_tree.specs.Lexes.{PlacedToken}
use Rattle.lexer.specs.Tokens.{HasTokens}
use Rattle.token_print.specs.declared.style.Style.{Style}
use Rattle.token_print.specs.Kept.{AreKept, KeepsTokens}
use Rattle.token_print.specs.Printed.{IsPrinted}
use Rattle.reduce_trees_mode.specs.Input.{TreeInput}

-- The text is UTF-8 and is cut into tokens, and the start rule, as the grammar is written, derives their kinds.
pub record InLanguage (grammar : CheckedGrammar) (text : List ℕ) : Type 0 where
  pub utf8 : IsUtf8 text
  pub tokens : List PlacedToken
  pub has : HasTokens grammar.grammar (chars text) tokens
  pub derived : StartDerives grammar (map (λ (t : PlacedToken). t.kind) tokens)

-- The text is printed of some of the start's tokens, in their order; it is cut into tokens with exactly
-- their kinds and spellings; it is admitted with them; and it is in the grammar's language.
pub record IsCandidate (input : TreeInput) (text : List ℕ) : Type 0 where
  pub kept : List ℕ
  pub style : Style
  pub are_kept : AreKept input.tokens kept
  pub printed_so : IsPrinted input.grammar.grammar input.start input.tokens kept style text
  pub keeps : KeepsTokens input.grammar.grammar input.start input.tokens kept text
  pub admitted : IsTrue (input.admits kept text)
  pub in_language : InLanguage input.grammar text
