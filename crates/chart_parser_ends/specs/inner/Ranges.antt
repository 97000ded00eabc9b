-- Entries whose ends are in one list, and how their ranges are found.
use Rattle.std.specs.Prelude.{◌≡◌, ℕ, ◌+◌, ◌<◌, ◌≤◌, Bool, ◌&&◌, List, [], ◌∷◌, ◌++◌, Option, Some, None, Result, OnErr, OnOk}
use Rattle.std.specs.Prelude.{length, map, nat_eq, slice_get, slice_index_or, slice_range}
use Rattle.std.specs.HashMap.{HashMap, get}
use Rattle.std.specs.List.{All, Contains}
use Rattle.chart_parser_ends.specs.declared.entries.EndsRange.{EndsRange}
use Rattle.chart_parser_ends.specs.inner.Entries.{Entry, entry}

abbrev pub entry_in : List ℕ → EndsRange → Entry
entry_in ends r = entry r.rule r.first (slice_range ends r.from (r.from + r.count))

-- the entries with these ranges, of the ends of all
abbrev pub entries_in : List ℕ → List EndsRange → List Entry
entries_in ends = map (entry_in ends)

-- Each range is one of the list's.
abbrev pub AreWithin : List ℕ → List EndsRange → Type 0
AreWithin ends = All (λ r. r.from + r.count ≤ length ends)

-- The range is that of the rule at the position `first`.
pub record IsRangeOf (rule first : ℕ) (r : EndsRange) : Type 0 where
  pub rule_is : r.rule ≡ rule
  pub first_is : r.first ≡ first

-- how many ranges are in the chain of a position at most: the constant `CHAIN`
abbrev pub chain_limit : ℕ
chain_limit = 32

-- The range is in no chain.
abbrev pub IsApart : EndsRange → Type 0
IsApart r = chain_limit < r.depth

-- The range is added to the ranges; after an error they are the same.
pub record IsAdded {T E : Type 0} (old new : List EndsRange) (r : EndsRange) (result : Result T E) : Type 0 where
  pub ok : OnOk result (new ≡ old ++ r ∷ [])
  pub err : OnErr result (new ≡ old)

-- It is the link to the last of the first n ranges that is in the chain of the position `first`: one more than its number, and 0 where none is.
pub record IsLink (ranges : List EndsRange) (n first link : ℕ) : Type 0 where
  pub bound : link ≤ n
  pub at : (i : ℕ) (r : EndsRange) → link ≡ i + 1 → slice_get ranges i ≡ Some r → r.first ≡ first
  pub last : (i : ℕ) (r : EndsRange) → link ≤ i → i < n → slice_get ranges i ≡ Some r → r.first ≡ first → IsApart r

-- Each range has the link to the last one before it in the chain of its position, and the list has at each position the link to the last one.
pub record AreLinked (ranges : List EndsRange) (last : List ℕ) : Type 0 where
  pub earlier : (i : ℕ) (r : EndsRange) → slice_get ranges i ≡ Some r → IsLink ranges i r.first r.earlier
  pub links : (first : ℕ) → IsLink ranges (length ranges) first (slice_index_or last first 0)

-- whether two pairs of a rule and a position are equal
abbrev pub same_key : ℕ × ℕ → ℕ × ℕ → Bool
same_key p q = nat_eq p.0 q.0 && nat_eq p.1 q.1

-- It is the number of a range of the rule at the position; there is none only where no range of theirs is in no chain.
abbrev pub IsNumberOf : List EndsRange → ℕ → ℕ → Option ℕ → Type 0
IsNumberOf ranges rule first None = (r : EndsRange) → Contains ranges r → IsRangeOf rule first r → ¬ IsApart r
IsNumberOf ranges rule first (Some number) = (r : EndsRange) × (slice_get ranges number ≡ Some r) × IsRangeOf rule first r

-- The map has the number of a range for each rule and position with a range that is in no chain.
abbrev pub IsNumbered : {S : Type 0} → List EndsRange → HashMap (ℕ × ℕ) ℕ S → Type 0
IsNumbered ranges numbers = (rule first : ℕ) → IsNumberOf ranges rule first (get same_key numbers (rule, first))
