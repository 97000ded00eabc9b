-- Laws of protected lines.
use Rattle.std.specs.Prelude.{◌≡◌, ◌≤◌, ◌<◌, ℕ, suc, ◌+◌, true, List, [], ◌∷◌, ◌++◌, length}
use Rattle.std.specs.List.{concat, range_with_len}
use Rattle.grammar_tree.specs.Lexes.{PlacedToken}
use Rattle.keep_guard.specs.Keep.{keeps_admit}
use Rattle.reduce_core.specs.Lines.{lines_of, numbered_lines, numbers_of}
use Rattle.line_guard.specs.declared.wish.Wish.{Wish}
use Rattle.line_guard.specs.Lines.{line_at, line_ends}
use Rattle.line_guard.specs.MustStay.{keeps_numbers, stays_admit}
use Rattle.line_guard.specs.Protected.{protected_lines, protected_tokens}

-- The line of this number, from 1, holds the byte at the offset: so many bytes are in the lines before it, and with those of the line there are more.
pub record HoldsByte (text : List ℕ) (number offset : ℕ) : Type 0 where
  pub before : List (List ℕ)
  pub line : List ℕ
  pub after : List (List ℕ)
  pub lines : lines_of text ≡ before ++ (line ∷ after)
  pub numbered : number ≡ suc (length before)
  pub begun : length (concat before) ≤ offset
  pub within : offset < length (concat before) + length line

-- Each byte of a text is in the line that is said to hold it.
abbrev pub LinesHoldTheirBytes : Type 0
LinesHoldTheirBytes = (text : List ℕ) (offset : ℕ) → offset < length text → HoldsByte text (line_at (line_ends text) offset) offset

-- Where all lines of a start are kept, or all of its tokens, so are those that must stay.
pub record AllKeepProtected : Type 0 where
  pub lines : (wishes : List Wish) (start : List ℕ) → keeps_numbers (numbers_of (numbered_lines start)) (protected_lines wishes start) ≡ true
  pub tokens : (wishes : List Wish) (start : List ℕ) (tokens : List PlacedToken)
      → keeps_numbers (range_with_len 0 (length tokens)) (protected_tokens wishes start tokens) ≡ true

-- Where nothing is wished for nothing is protected, and then the keep texts alone say what is admitted.
pub record NothingIsProtected : Type 0 where
  pub lines : (start : List ℕ) → protected_lines [] start ≡ []
  pub tokens : (start : List ℕ) (tokens : List PlacedToken) → protected_tokens [] start tokens ≡ []
  pub admits : (texts : List (List ℕ)) → stays_admit (record { texts = texts; numbers = [] }) ≡ keeps_admit texts
