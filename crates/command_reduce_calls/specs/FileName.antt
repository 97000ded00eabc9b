-- The last part of a path.
use Rattle.std.specs.Prelude.{ℕ, ◌==◌, Bool, List, [], ◌∷◌, if◌then◌else◌}
use Rattle.std.specs.List.{list_any}

-- a slash (47) is in the path
abbrev pub has_slash : List ℕ → Bool
has_slash path = list_any (λ byte. byte == 47) path

-- the part of a path after its last slash, or the whole path where it has none
abbrev pub file_name_of : List ℕ → List ℕ
file_name_of [] = []
file_name_of (byte ∷ path) = if has_slash path then file_name_of path else if byte == 47 then path else byte ∷ path
