use Rattle.std.proofs.Common.{◌≡◌, ℕ, Some, length, map, slice_get}
use Rattle.normal_form.specs.View.{rule_form}
use Rattle.compat_table.specs.inner.Rows.{AreStars, Symbols}
use Rattle.compat_table.specs.inner.Table.{IsSortedRow}
use Rattle.compat_table.specs.inner.View.{symbols_of}
use Rattle.compat_table.proofs.stars.stars.Given as goal

abbrev pub invariant-loop-rule : goal.invariant-loop-rule
invariant-loop-rule l =
    record {
      so_far : length l.stars.items ≡ l.rule;
      are : (r : ℕ) (row symbols : Symbols) → slice_get (map symbols_of l.rows) r ≡ Some row → slice_get (map symbols_of l.stars.items) r ≡ Some symbols
          → AreStars (map rule_form l.rules) r row.rules symbols;
      sorted : (r : ℕ) (symbols : Symbols) → slice_get (map symbols_of l.stars.items) r ≡ Some symbols → IsSortedRow symbols;
    }
