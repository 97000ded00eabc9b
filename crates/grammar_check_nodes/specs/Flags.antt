-- Tables of flags.
use Rattle.std.specs.Prelude.{ℕ, Bool, false, List, slice_index_or}

-- what a table says of a number; false past its end
abbrev pub flag : List Bool → ℕ → Bool
flag flags r = slice_index_or flags r false
