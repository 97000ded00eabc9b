-- Characters, and sets of them.
use Rattle.std.specs.Prelude.{◌≡◌, ℕ, Bool, true, false, ◌&&◌, nat_le, List}
use Rattle.std.specs.Char.{IsScalar}
use Rattle.regex_class.specs.Ranges.{IsCanonical, in_ranges}

-- a surrogate code unit, which is a number but no character
abbrev pub is_surrogate : ℕ → Bool
is_surrogate c = nat_le 0xD800 c && nat_le c 0xDFFF

-- The number lies in one of the ranges, which have both their ends.
abbrev pub has : List (ℕ × ℕ) → ℕ → Bool
has = in_ranges

-- no surrogate lies in the ranges
abbrev pub HasOnlyChars : List (ℕ × ℕ) → Type 0
HasOnlyChars set = (c : ℕ) → is_surrogate c ≡ true → has set c ≡ false

-- A set of characters: its ranges rise up to 0x10FFFF, at least one number is missing between two of them, and no surrogate lies in them.
pub record IsCharSet (set : List (ℕ × ℕ)) : Type 0 where
  pub canonical : IsCanonical set
  pub only_chars : HasOnlyChars set

-- of all characters the set has those that pass the test
abbrev pub HasExactlyChars : List (ℕ × ℕ) → (ℕ → Bool) → Type 0
HasExactlyChars set test = (c : ℕ) → IsScalar c → has set c ≡ test c
