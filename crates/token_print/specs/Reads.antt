-- How often pieces of a printed text are read.
use Rattle.std.specs.Prelude.{◌≡◌, ◌≢◌, ◌⊎◌, ◌≤◌, ◌+◌, ℕ, List, [], ◌++◌}
use Rattle.std.specs.Str.{chars}
use Rattle.grammar_tree.specs.Written.{WrittenGrammar}
use Rattle.grammar_tree.specs.Lexes.{KindMatches, LexesTo, Piece as PlainPiece, PlacedToken}
use Rattle.lexer.specs.declared.piece.Piece.{Piece}
use Rattle.token_print.specs.declared.style.Skips.{Skips}
use Rattle.token_print.specs.declared.style.Style.{Style}
use Rattle.token_print.specs.Printed.{AreSkipped}
use Rattle.token_print.specs.Runs.{runs, uncarried}

-- Nothing of the text is left; or no rule matches at least one character of what is left, and this counts as one.
abbrev pub IsEndWith : WrittenGrammar → List ℕ → ℕ → Type 0
IsEndWith G left more =
    ((left ≡ []) × (more ≡ 0)) ⊎ ((more ≡ 1) × ((kind : ℕ) (front back : List ℕ) → left ≡ front ++ back → front ≢ [] → ¬ KindMatches G kind front))

-- From the one count of reads to the other there are no more reads than the text has pieces that aren't carried, and one more where a position has no piece.
abbrev pub ReadsFew : WrittenGrammar → List ℕ → List Piece → List PlacedToken → List ℕ → Style → List ℕ → ℕ → ℕ → Type 0
ReadsFew G start pieces tokens kept style text before after =
    (skips : Skips) (found : List PlainPiece) (left : List ℕ) (more : ℕ) → AreSkipped G skips → LexesTo G (chars text) found left → IsEndWith G left more
    → after ≤ before + (uncarried pieces (runs skips start tokens kept style) 0 found + more)
