-- The lines of a text. A line is the bytes up to and including a newline; a last line may lack it.
use Rattle.std.specs.Prelude.{ℕ, ◌==◌, ◌+◌, List, [], ◌∷◌, if◌then◌else◌, map}
use Rattle.std.specs.List.{concat}
use Rattle.reduce_core.specs.declared.lines.Line.{Line}

-- one byte more at the front of the first line
abbrev pub at_front_of : ℕ → List (List ℕ) → List (List ℕ)
at_front_of byte [] = (byte ∷ []) ∷ []
at_front_of byte (line ∷ lines) = (byte ∷ line) ∷ lines

-- a newline (byte 10) ends its line
abbrev pub lines_of : List ℕ → List (List ℕ)
lines_of [] = []
lines_of (byte ∷ text) = if byte == 10 then (byte ∷ []) ∷ lines_of text else at_front_of byte (lines_of text)

-- the lines with their numbers, where the first has the number that is given
abbrev pub numbered : ℕ → List (List ℕ) → List Line
numbered number [] = []
numbered number (bytes ∷ lines) = record { number = number; bytes = bytes } ∷ numbered (number + 1) lines

-- the lines of a text with their numbers, from 0
abbrev pub numbered_lines : List ℕ → List Line
numbered_lines text = numbered 0 (lines_of text)

-- the bytes of the lines, one line after another
abbrev pub text_of : List Line → List ℕ
text_of lines = concat (map (λ (line : Line). line.bytes) lines)

-- the numbers of the lines
abbrev pub numbers_of : List Line → List ℕ
numbers_of lines = map (λ (line : Line). line.number) lines
