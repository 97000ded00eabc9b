-- Which texts of a run may be asked.
use Rattle.std.specs.Prelude.{◌≡◌, ℕ, List, true}
use Rattle.std.specs.Str.{chars, IsUtf8}
use Rattle.grammar_tree.specs.Written.{CheckedGrammar}
use Rattle.grammar_tree.specs.Checked.{IsChecked}
use Rattle.grammar_tree.specs.Lexes.{PlacedToken}
use Rattle.keep_guard.specs.Keep.{holds_all}
use Rattle.lexer.specs.Tokens.{HasTokens}
use Rattle.token_print.specs.declared.style.Style.{Style}
use Rattle.token_print.specs.Kept.{AreKept, KeepsTokens}
use Rattle.token_print.specs.Printed.{IsPrinted}
use Rattle.reduce_trees_mode.specs.Candidates.{InLanguage}

-- a start by a grammar, with its tokens, and the texts that stay
pub record TreeStart : Type 0 where
  pub grammar : CheckedGrammar
  pub start : List ℕ
  pub tokens : List PlacedToken
  pub keeps : List (List ℕ)

-- a start by its lines, and the texts that stay
pub record LineStart : Type 0 where
  pub start : List ℕ
  pub keeps : List (List ℕ)

-- the grammar is checked, and these are the start's tokens
pub record IsTreeStart (from : TreeStart) : Type 0 where
  pub checked : IsChecked from.grammar
  pub utf8 : IsUtf8 from.start
  pub has_tokens : HasTokens from.grammar.grammar (chars from.start) from.tokens

-- The text is printed in this style of some of the start's tokens, in their order, and is cut into tokens with exactly their kinds and spellings.
pub record IsPrintOf (from : TreeStart) (style : Style) (text : List ℕ) : Type 0 where
  pub kept : List ℕ
  pub are_kept : AreKept from.tokens kept
  pub printed_so : IsPrinted from.grammar.grammar from.start from.tokens kept style text
  pub keeps : KeepsTokens from.grammar.grammar from.start from.tokens kept text

-- The text may be asked: it is printed so in one of the styles, each text that stays occurs in it, and it is in the grammar's language.
pub record IsCandidateFrom (from : TreeStart) (text : List ℕ) : Type 0 where
  pub style : Style
  pub print : IsPrintOf from style text
  pub held : holds_all from.keeps text ≡ true
  pub in_language : InLanguage from.grammar text
