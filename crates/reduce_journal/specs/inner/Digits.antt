-- The digits of a head.
use Rattle.std.specs.Prelude.{ℕ, ◌==◌, Bool}
use Rattle.std.specs.List.{list_any}
use Rattle.hex.specs.Hex.{lower_digits}

-- whether it is a hexadecimal digit in lower case
abbrev pub is_lower_digit : ℕ → Bool
is_lower_digit digit = list_any (λ d. d == digit) lower_digits
