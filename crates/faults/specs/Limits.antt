-- Limits of counts.
use Rattle.std.specs.Prelude.{ℕ, ◌-◌, ◌^◌}
use Rattle.faults.specs.declared.limit.Limit.{Limit}
use Rattle.faults.specs.declared.limit.Limit.TheVariants.{States, Ranges, Symbols, Tries, Numbers}

-- how many there are at most
abbrev pub bound_of : Limit → ℕ
bound_of States = 1000000
bound_of Ranges = 4000000
bound_of Symbols = 2 ^ 24
bound_of Tries = 2 ^ 21
bound_of Numbers = 2 ^ 32 - 1
