-- What holds of what is kept of a start.
use Rattle.std.specs.Prelude.{◌≡◌, ◌≢◌, [], ◌≤◌, ℕ, List, length, map}
use denote.Ref.{Bor}
use Rattle.std.specs.Str.{chars, IsUtf8}
use Rattle.grammar_tree.specs.Written.{CheckedGrammar}
use Rattle.grammar_tree.specs.Checked.{IsChecked}
use Rattle.grammar_tree.specs.Lexes.{PlacedToken}
use Rattle.lexer.specs.Tokens.{HasTokens, token_of}
use Rattle.lexer.specs.declared.token.Tokens.{Tokens}
use Rattle.normal_form.specs.Form.{NormalForm}
use Rattle.normal_form.specs.NormalOf.{normal_of}
use Rattle.reduce_step.specs.Limits.{text_limit}
use Rattle.token_print.specs.Spelling.{spelling_at}
use Rattle.token_print.specs.declared.style.Skips.{Skips}
use Rattle.token_print.specs.declared.style.Style.{Style}
use Rattle.token_print.specs.Printed.{AreSkipped}
use Rattle.cert_check_texts.specs.Texts.{IsPrintOf, TreeStart}
use Rattle.cert_check_texts.specs.inner.Numbers.{HasNumbers}
use Rattle.cert_check_texts.specs.inner.Reached.{AreSeparators}
use Rattle.cert_check_texts.specs.declared.numbers.Numbers.{Numbers}

-- the tokens, as definitions see them, and their kinds
abbrev pub tokens_in : Tokens → List PlacedToken
tokens_in tokens = map token_of tokens.items.items

abbrev pub kinds_in : List PlacedToken → List ℕ
kinds_in tokens = map (λ (t : PlacedToken). t.kind) tokens

-- The start isn't printed whole in this style: it has tokens, or it is squeezed.
abbrev pub IsPrintedInPieces : List PlacedToken → Style → Type 0
IsPrintedInPieces tokens Style.Squeezed = Unit {0}
IsPrintedInPieces tokens Style.AsWas = tokens ≢ []

-- The tokens are those of the start, and fewer than 2^32; the normal form is the grammar's;
-- what is skipped is what it skips; the separators are those of the tokens, as they are lent; and with each spelling are kept its tokens.
pub record AreFieldsOf (grammar : CheckedGrammar) (start : List ℕ) (tokens : Tokens) (form : NormalForm) (skips : Skips) (separators : List (Bor (List ℕ)))
    (numbers : Numbers) : Type 0 where
  pub checked : IsChecked grammar
  pub utf8 : IsUtf8 start
  pub short : length start ≤ text_limit
  pub has_tokens : HasTokens grammar.grammar (chars start) (tokens_in tokens)
  pub form_is : form ≡ normal_of grammar
  pub agree : AreSkipped grammar.grammar skips
  pub separate : AreSeparators skips start (tokens_in tokens) (length (tokens_in tokens)) separators
  pub equal : HasNumbers numbers (spelling_at start (tokens_in tokens)) (length (tokens_in tokens))

-- a print in one of the styles
abbrev pub IsPrint : TreeStart → List ℕ → Type 0
IsPrint from text = (style : Style) × IsPrintOf from style text
