use Rattle.std.proofs.Common.{◌≡◌, ◌+◌, ◌^◌, ◌<◌, ◌≤◌, ℕ, Some, length, map, slice_get}
use Rattle.std.specs.List.{All}
use Rattle.compat_table.specs.inner.Rows.{IsRowOf, Symbols, size_of_all}
use Rattle.compat_table.specs.inner.Table.{IsSortedRow}
use Rattle.compat_table.specs.inner.View.{edges_of, symbols_of}
use Rattle.compat_table.proofs.search.rows.Given as goal

abbrev pub invariant-loop-rule : goal.invariant-loop-rule
invariant-loop-rule l =
    record {
      marks_len : length l.marks ≡ length l.edges;
      below : All (λ m. m < l.rule + 1) l.marks;
      so_far : length l.rows.items ≡ l.rule;
      are : (r : ℕ) (row : Symbols) → slice_get (map symbols_of l.rows.items) r ≡ Some row → IsRowOf (edges_of l.edges) r row;
      few : l.found ≤ 2 ^ 24;
      found : size_of_all (map symbols_of l.rows.items) ≤ l.found;
      sorted : (r : ℕ) (row : Symbols) → slice_get (map symbols_of l.rows.items) r ≡ Some row → IsSortedRow row;
    }
