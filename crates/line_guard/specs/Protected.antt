-- Which lines and tokens must stay. They are those of a start, by what is wished for; lines are those of mode `lines`.
use Rattle.std.specs.Prelude.{ℕ, ◌+◌, ◌-◌, ◌==◌, ◌&&◌, Bool, not, nat_le, List, [], ◌∷◌, if◌then◌else◌}
use Rattle.std.specs.List.{list_any}
use Rattle.grammar_tree.specs.Lexes.{PlacedToken}
use Rattle.keep_guard.specs.Keep.{occurs}
use Rattle.reduce_core.specs.declared.lines.Line.{Line}
use Rattle.reduce_core.specs.Lines.{numbered_lines}
use Rattle.line_guard.specs.declared.wish.Wish.{Wish}
use Rattle.line_guard.specs.declared.wish.Wish.TheVariants.{Lines, Holding, Only}
use Rattle.line_guard.specs.Lines.{line_at, line_ends}

-- the number is one from the first to the last
abbrev pub is_within : ℕ → ℕ → ℕ → Bool
is_within first last number = nat_le first number && nat_le number last

-- the bytes of a line without the newline (10) at its end
abbrev pub without_newline : List ℕ → List ℕ
without_newline [] = []
without_newline (byte ∷ []) = if byte == 10 then [] else byte ∷ []
without_newline (byte ∷ (next ∷ line)) = byte ∷ without_newline (next ∷ line)

-- the wish protects the line of this number, from 1, with these bytes
abbrev pub protects : Wish → ℕ → List ℕ → Bool
protects (Lines first last) number line = is_within first last number
protects (Holding text) number line = occurs text (without_newline line)
protects (Only first last) number line = not (is_within first last number)

-- a wish protects the line, whose number is from 0
abbrev pub is_protected : List Wish → Line → Bool
is_protected wishes line = list_any (λ wish. protects wish (line.number + 1) line.bytes) wishes

-- the token lies on the line: that of its first byte, that of its last, or one between
abbrev pub lies_on : List ℕ → PlacedToken → Line → Bool
lies_on start token line = is_within (line_at (line_ends start) token.start) (line_at (line_ends start) (token.end - 1)) (line.number + 1)

-- the token lies on a line that a wish protects
abbrev pub is_token_protected : List Wish → List ℕ → PlacedToken → Bool
is_token_protected wishes start token = list_any (λ line. lies_on start token line && is_protected wishes line) (numbered_lines start)

-- the numbers of the elements that pass the test, where the first has this number
abbrev pub numbers_where : {X : Type 0} → (X → Bool) → ℕ → List X → List ℕ
numbers_where test number [] = []
numbers_where test number (x ∷ xs) = if test x then number ∷ numbers_where test (number + 1) xs else numbers_where test (number + 1) xs

-- The numbers, from 0, of the lines of a start that must stay.
abbrev pub protected_lines : List Wish → List ℕ → List ℕ
protected_lines wishes start = numbers_where (is_protected wishes) 0 (numbered_lines start)

-- The numbers, from 0, of these tokens of a start that must stay.
abbrev pub protected_tokens : List Wish → List ℕ → List PlacedToken → List ℕ
protected_tokens wishes start tokens = numbers_where (is_token_protected wishes start) 0 tokens
