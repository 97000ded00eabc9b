-- The tokens and the lines of a start by their bytes.
use Rattle.std.specs.Prelude.{◌≡◌, ◌↔◌, ◌<◌, ℕ, List, [], slice_index_or}
use Rattle.std.specs.BTreeMap.{get_by}
use Rattle.std.specs.Cmp.Lexicographic.{slice_cmp}
use Rattle.std.specs.List.{Contains}
use Rattle.std.specs.List.Sorted.{IsStrictlyIncreasing}
use Rattle.std.specs.Option.{option_map_or}
use Rattle.std.specs.Ordering.{nat_cmp}
use Rattle.reduce_core.specs.Lines.{lines_of}
use Rattle.cert_check_texts.specs.declared.numbers.Numbers.{Numbers}

-- the numbers that are kept with these bytes
abbrev pub listed_with : Numbers → List ℕ → List ℕ
listed_with numbers bytes = option_map_or (λ v. v.items) (get_by (λ k. slice_cmp nat_cmp bytes k.now) numbers.lists) []

-- With all bytes are kept, rising, those of the first so many numbers at which they are.
pub record HasNumbers (numbers : Numbers) (at : ℕ → List ℕ) (count : ℕ) : Type 0 where
  pub listed : (bytes : List ℕ) (number : ℕ) → Contains (listed_with numbers bytes) number ↔ ((number < count) × (at number ≡ bytes))
  pub rise : (bytes : List ℕ) → IsStrictlyIncreasing (listed_with numbers bytes)

-- the line with this number, from 0; nothing where there is none
abbrev pub line_at : List ℕ → ℕ → List ℕ
line_at start number = slice_index_or (lines_of start) number []
