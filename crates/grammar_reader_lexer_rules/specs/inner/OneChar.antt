-- Texts of one character.
use Rattle.std.specs.Prelude.{ℕ, List, [], ◌∷◌, Option, Some, None}

-- the character of a text that has just one
abbrev pub only_char : List ℕ → Option ℕ
only_char [] = None
only_char (c ∷ []) = Some c
only_char (c ∷ (e ∷ cs)) = None
