-- Lists of tokens, by their numbers.
use Rattle.std.specs.Prelude.{ℕ, ◌<◌, ◌≤◌, nat_le, nat_lt, List, length, slice_index}
use Rattle.std.specs.List.{filter}
use Rattle.syntax_tree.specs.LeftLaws.{is_within}

-- those before a token
abbrev pub before : ℕ → List ℕ → List ℕ
before first tokens = filter (λ i. nat_lt i first) tokens

-- those from one token up to but not including another
abbrev pub within : ℕ → ℕ → List ℕ → List ℕ
within first end tokens = filter (is_within first end) tokens

-- those from a token on
abbrev pub from_on : ℕ → List ℕ → List ℕ
from_on end tokens = filter (λ i. nat_le end i) tokens

-- The first `count` tokens are less than the bound, and the others aren't.
pub record IsSplitAt (tokens : List ℕ) (bound count : ℕ) : Type 0 where
  pub among : count ≤ length tokens
  pub less : (k : ℕ) → k < count → slice_index tokens k < bound
  pub others : (k : ℕ) → count ≤ k → k < length tokens → bound ≤ slice_index tokens k
