-- The text that is printed of the kept tokens of a start. Texts are bytes, and tokens have their numbers from 0.
use Rattle.std.specs.Prelude.{◌≡◌, ◌↔◌, ℕ, suc, nat_eq, true, ◌&&◌, cond, List, [], ◌∷◌, ◌++◌, Option, Some, None, length}
use Rattle.std.specs.List.{list_any}
use Rattle.grammar_tree.specs.Written.{WrittenGrammar}
use Rattle.grammar_tree.specs.Lexes.{PlacedToken}
use Rattle.lexer.specs.Tokens.{IsGapText}
use Rattle.token_print.specs.Spelling.{gap_text, spelling_at}
use Rattle.token_print.specs.declared.style.Skips.{Skips}
use Rattle.token_print.specs.declared.style.Style.{Style}

-- a newline where the gap has one and newlines are skipped; else a space where spaces are skipped; else nothing
abbrev pub separator : Skips → List ℕ → List ℕ
separator skips gap = cond (skips.newline && list_any (nat_eq 10) gap) (10 ∷ []) (cond skips.space (32 ∷ []) [])

-- a newline where newlines are skipped
abbrev pub final_newline : Skips → List ℕ
final_newline skips = cond skips.newline (10 ∷ []) []

module _ (skips : Skips) (start : List ℕ) (tokens : List PlacedToken) where
  -- What is printed before a kept token, after the kept token before it. Squeezed, nothing is printed before the first one,
  -- and its separator before each other one. As it was, its own gap is printed where it follows the token before it in the
  -- start, or is the first of all; else its separator, or nothing where it is the first one that is kept.
  abbrev pub before : Style → Option ℕ → ℕ → List ℕ
  before Style.Squeezed None i = []
  before Style.Squeezed (Some last) i = separator skips (gap_text start tokens i)
  before Style.AsWas None i = cond (nat_eq i 0) (gap_text start tokens i) []
  before Style.AsWas (Some last) i = cond (nat_eq i (suc last)) (gap_text start tokens i) (separator skips (gap_text start tokens i))

  -- What is printed after the last kept token. Nothing where none is kept; as it was, the trailing
  -- gap where the token is the last of all; else a newline where newlines are skipped.
  abbrev pub after : Style → Option ℕ → List ℕ
  after Style.Squeezed None = []
  after Style.Squeezed (Some last) = final_newline skips
  after Style.AsWas None = []
  after Style.AsWas (Some last) = cond (nat_eq (suc last) (length tokens)) (gap_text start tokens (length tokens)) (final_newline skips)

  -- what is printed of kept tokens, and after them, where they come after the last one
  abbrev pub printed_after : Style → Option ℕ → List ℕ → List ℕ
  printed_after style last [] = after style last
  printed_after style last (i ∷ kept) = before style last i ++ (spelling_at start tokens i ++ printed_after style (Some i) kept)

-- The text of the kept tokens of the start. As it was, a start without tokens is printed whole.
abbrev pub printed : Skips → List ℕ → List PlacedToken → List ℕ → Style → List ℕ
printed skips start tokens kept Style.Squeezed = printed_after skips start tokens Style.Squeezed None kept
printed skips start [] kept Style.AsWas = start
printed skips start (t ∷ tokens) kept Style.AsWas = printed_after skips start (t ∷ tokens) Style.AsWas None kept

-- these are what the grammar skips
pub record AreSkipped (G : WrittenGrammar) (skips : Skips) : Type 0 where
  pub newline : (skips.newline ≡ true) ↔ IsGapText G 10
  pub space : (skips.space ≡ true) ↔ IsGapText G 32

-- The text is the one that is printed with what the grammar skips.
pub record IsPrinted (G : WrittenGrammar) (start : List ℕ) (tokens : List PlacedToken) (kept : List ℕ) (style : Style) (text : List ℕ) : Type 0 where
  pub skips : Skips
  pub agree : AreSkipped G skips
  pub same : text ≡ printed skips start tokens kept style
