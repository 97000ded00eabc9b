-- Which line of a text holds a byte. Lines are those of mode `lines`, numbered from 1 here.
use Rattle.std.specs.Prelude.{ℕ, suc, ◌+◌, nat_lt, List, [], ◌∷◌, length, if◌then◌else◌}
use Rattle.reduce_core.specs.Lines.{lines_of}

-- where these lines end, one after another, where the first begins at this offset
abbrev pub ends_from : ℕ → List (List ℕ) → List ℕ
ends_from begin [] = []
ends_from begin (line ∷ lines) = (begin + length line) ∷ ends_from (begin + length line) lines

-- where the lines of a text end: the offsets after their last bytes
abbrev pub line_ends : List ℕ → List ℕ
line_ends text = ends_from 0 (lines_of text)

-- the line that holds the byte at this offset, by where the lines end: the first one that ends after it
abbrev pub line_at : List ℕ → ℕ → ℕ
line_at [] offset = 1
line_at (end ∷ ends) offset = if nat_lt offset end then 1 else suc (line_at ends offset)
