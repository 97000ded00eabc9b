-- The table of what fits each rule.
use Rattle.std.specs.Prelude.{◌≡◌, ◌⊎◌, ℕ, ◌<◌, Bool, List, Some, length, map, slice_get}
use Rattle.std.specs.List.{Contains}
use Rattle.std.specs.List.Sorted.{IsNonDecreasing}
use Rattle.normal_form.specs.declared.normal.Sym.{Sym}
use Rattle.normal_form.specs.declared.normal.Sym.TheVariants.{Rule}
use Rattle.normal_form.specs.Form.{RuleForm, NormalForm}
use Rattle.compat_table.specs.Fits.{IsKindIn, IsPlusOf}
use Rattle.compat_table.specs.Nullable.{AreNullable}
use Rattle.compat_table.specs.inner.Rows.{AreStars, HasEdge, IsAmong, IsRowOf, Symbols, next_symbols}

-- Each rule that an edge leads to is one of the rules.
abbrev pub IsClosed : List (List Sym) → Type 0
IsClosed edges = (r q : ℕ) → HasEdge edges r (Rule q) → q < length edges

pub record IsSortedRow (row : Symbols) : Type 0 where
  pub kinds : IsNonDecreasing row.kinds
  pub sets : IsNonDecreasing row.sets
  pub rules : IsNonDecreasing row.rules

-- For each rule there is a row, with exactly the symbols that it leads to, and sorted.
pub record AreRowsOf (edges : List (List Sym)) (rows : List Symbols) : Type 0 where
  pub for_each : length rows ≡ length edges
  pub are : (r : ℕ) (row : Symbols) → slice_get rows r ≡ Some row → IsRowOf edges r row
  pub sorted : (r : ℕ) (row : Symbols) → slice_get rows r ≡ Some row → IsSortedRow row

-- For each rule there are the symbols of the stars among it and the rules in its row, sorted.
pub record AreStarsOf (rules : List RuleForm) (rows stars : List Symbols) : Type 0 where
  pub for_each : length stars ≡ length rows
  pub are : (r : ℕ) (row symbols : Symbols) → slice_get rows r ≡ Some row → slice_get stars r ≡ Some symbols → AreStars rules r row.rules symbols
  pub sorted : (r : ℕ) (symbols : Symbols) → slice_get stars r ≡ Some symbols → IsSortedRow symbols

-- the edges of a normal form, where this says which rules derive the empty list
abbrev pub edges_of_form : (ℕ → Bool) → NormalForm → List (List Sym)
edges_of_form nulls N = map (next_symbols nulls) N.rules

-- The symbol is in the row, is a kind in a set there, or is a plus of one of the symbols of the stars there.
abbrev pub IsInRow : NormalForm → Symbols → Symbols → Sym → Type 0
IsInRow N row stars s = IsAmong row s ⊎ (((i : ℕ) × Contains row.sets i × IsKindIn N s i) ⊎ ((t : Sym) × IsPlusOf N s t × IsAmong stars t))

-- The rows and stars are those of the form.
pub record IsTableOf (N : NormalForm) (rows stars : List Symbols) : Type 0 where
  pub nulls : ℕ → Bool
  pub nullable : AreNullable N nulls
  pub rows_are : AreRowsOf (edges_of_form nulls N) rows
  pub stars_are : AreStarsOf N.rules rows stars
