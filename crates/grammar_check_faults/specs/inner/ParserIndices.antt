-- Beside `../ParserIndices.antt`: what private functions and proofs need.
use Rattle.std.specs.Prelude.{ℕ, min, List, Option, Some, None, slice_get}

-- the index of the rule with a number
abbrev pub index_at : List ℕ → Option ℕ → Option ℕ
index_at indices None = None
index_at indices (Some number) = slice_get indices number

-- the earlier of two indices, where there are any
abbrev pub earlier_index : Option ℕ → Option ℕ → Option ℕ
earlier_index None b = b
earlier_index (Some i) None = Some i
earlier_index (Some i) (Some j) = Some (min i j)
