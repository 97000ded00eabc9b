use Rattle.std.proofs.Common.{◌+◌, ◌-◌, ◌^◌, ◌<◌, ◌≤◌, length, vec_len}
use Rattle.std.specs.List.{All}
use Rattle.compat_table.specs.inner.Rows.{IsMarked, IsSearched, size}
use Rattle.compat_table.specs.inner.View.{edges_of, symbols_of}
use Rattle.compat_table.proofs.search.row_of.Given as goal

abbrev pub invariant-loop-done : goal.invariant-loop-done
invariant-loop-done l =
    record {
      searched : IsSearched (edges_of l.edges) l.rule (symbols_of l.row) l.done;
      marked : IsMarked l.marks (l.rule + 1) (symbols_of l.row);
      below : All (λ m. m < l.rule + 2) l.marks;
      within : l.done ≤ vec_len l.row.rules;
      few_found : l.found ≤ 2 ^ 24;
      found : l.fn.found + size (symbols_of l.row) ≤ l.found;
    }

abbrev pub decreases-loop-done : goal.decreases-loop-done
decreases-loop-done l = length l.edges - l.done
