-- Where the lines of an index begin.
use Rattle.std.specs.Prelude.{ℕ, zero, suc, List, slice_index}

-- where the line at this index, from 0, begins: the first one here, and another where the one before it ends
abbrev pub begin_from : ℕ → List ℕ → ℕ → ℕ
begin_from begin ends zero = begin
begin_from begin ends (suc at) = slice_index ends at
