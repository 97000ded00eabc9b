-- Numbers that rise strictly below a bound are the numbers of kept tokens.
use Rattle.std.proofs.Common.{ℕ, ◌+◌, ◌<◌, List, slice_index, length}

-- the number at the index is below the bound, and below the one after it
abbrev pub IsNext : ℕ → List ℕ → ℕ → Type 0
IsNext bound kept i = (slice_index kept i < bound) × (i + 1 < length kept → slice_index kept i < slice_index kept (i + 1))
