-- Which texts of lines may be asked, and what a single edit of lines is.
use Rattle.std.specs.Prelude.{◌≡◌, ◌<◌, ℕ, true, List, [], ◌∷◌, length, remove}
use Rattle.reduce_core.specs.declared.lines.Line.{Line}
use Rattle.reduce_core.specs.Lines.{numbered_lines, text_of}
use Rattle.reduce_core.specs.Reduction.{Admits, is_listed}

-- one line is deleted
abbrev pub IsLineEdit : List Line → List Line → Type 0
IsLineEdit lines other = (k : ℕ) × (k < length lines) × (other ≡ remove lines k)

-- the first list has some of the elements of the second, in their order
pub data IsSubsequence : List Line → List Line → Type 0 where
  nothing : IsSubsequence [] []
  keeps : (x : Line) (xs ys : List Line) → IsSubsequence xs ys → IsSubsequence (x ∷ xs) (x ∷ ys)
  leaves : (y : Line) (xs ys : List Line) → IsSubsequence xs ys → IsSubsequence xs (y ∷ ys)

-- the text is some of the start's lines, one after another in their order, which are admitted
pub record IsLineCandidate (admits : Admits) (start text : List ℕ) : Type 0 where
  pub lines : List Line
  pub some : IsSubsequence lines (numbered_lines start)
  pub listed : is_listed admits lines ≡ true
  pub joined : text ≡ text_of lines
