-- What contracts see of the text that remains: its characters.
use Rattle.std.specs.Prelude.{ℕ, List, [], ◌∷◌, Option, Some, None}
use Rattle.std.specs.Str.{chars}
use denote.Ref.{Bor}

-- the first character and the others
abbrev pub uncons : List ℕ → Option (ℕ × List ℕ)
uncons [] = None
uncons (c ∷ cs) = Some (c, cs)

-- a value, and the characters of the text that follows it
abbrev pub seen : {A : Type 0} → Option (A × Bor (List ℕ)) → Option (A × List ℕ)
seen None = None
seen (Some (a, rest)) = Some (a, chars rest.now)
