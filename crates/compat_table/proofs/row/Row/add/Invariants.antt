use Rattle.std.proofs.Common.{ℕ, ◌<◌, take}
use Rattle.std.specs.List.{All}
use Rattle.compat_table.specs.inner.Rows.{IsGrown, IsMarked}
use Rattle.compat_table.specs.inner.View.{symbols_of}
use Rattle.compat_table.proofs.row.Row.add.Given as goal

abbrev pub invariant-loop-symbol : goal.invariant-loop-symbol
invariant-loop-symbol l =
    record {
      marked : IsMarked l.marks l.number (symbols_of l.self);
      grown : IsGrown (take l.symbol-index l.symbols) (symbols_of l.fn.self) (symbols_of l.self);
      same : (n : ℕ) → l.number < n → All (λ m. m < n) l.fn.marks → All (λ m. m < n) l.marks;
    }
