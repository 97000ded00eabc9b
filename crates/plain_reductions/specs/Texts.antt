-- Which text kept tokens have, where it may be asked.
use Rattle.std.specs.Prelude.{ℕ, List}
use Rattle.std.specs.Str.{chars}
use Rattle.grammar_tree.specs.Written.{WrittenGrammar}
use Rattle.grammar_tree.specs.Lexes.{PlacedToken}
use Rattle.lexer.specs.Tokens.{HasTokens}
use Rattle.token_print.specs.declared.style.Style.{Style}
use Rattle.token_print.specs.Kept.{KeepsTokens}
use Rattle.token_print.specs.Printed.{IsPrinted}

-- The text is that of kept tokens of the start, in this style, and it is cut into these tokens again.
pub record IsListedText (G : WrittenGrammar) (start kept : List ℕ) (style : Style) (text : List ℕ) : Type 0 where
  pub tokens : List PlacedToken
  pub has_tokens : HasTokens G (chars start) tokens
  pub is_printed : IsPrinted G start tokens kept style text
  pub keeps_tokens : KeepsTokens G start tokens kept text
