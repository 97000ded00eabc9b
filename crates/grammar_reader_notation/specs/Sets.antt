-- The set of the characters that pass a test.
use Rattle.std.specs.Prelude.{ℕ, zero, suc, Bool, not, ◌&&◌, ◌==◌, cond, List, [], ◌∷◌}
use Rattle.grammar_tree.specs.Chars.{has, is_surrogate}

-- rising ranges, and one more number above them
abbrev pub and_number : List (ℕ × ℕ) → ℕ → List (ℕ × ℕ)
and_number [] n = (n, n) ∷ []
and_number (r ∷ []) n = cond (suc r.1 == n) ((r.0, n) ∷ []) (r ∷ (n, n) ∷ [])
and_number (r ∷ (q ∷ rs)) n = r ∷ and_number (q ∷ rs) n

-- the numbers below `n` that pass the test, in ranges that rise with a gap between any two
abbrev pub ranges_below : (ℕ → Bool) → ℕ → List (ℕ × ℕ)
ranges_below p zero = []
ranges_below p (suc n) = cond (p n) (and_number (ranges_below p n) n) (ranges_below p n)

-- the set of the characters that pass the test; surrogates are no characters
unfoldable pub set_of : (ℕ → Bool) → List (ℕ × ℕ)
set_of p = ranges_below (λ c. p c && not (is_surrogate c)) 0x110000

-- the characters in the ranges, and those outside
abbrev pub within : List (ℕ × ℕ) → List (ℕ × ℕ)
within ranges = set_of (has ranges)

abbrev pub outside : List (ℕ × ℕ) → List (ℕ × ℕ)
outside ranges = set_of (λ c. not (has ranges c))
