-- What contracts see of rows.
use Rattle.std.specs.Prelude.{List, map}
use Rattle.std.specs.Global.{Vec}
use Rattle.normal_form.specs.declared.normal.Sym.{Sym}
use Rattle.compat_table.specs.declared.row.Row.{Row}
use Rattle.compat_table.specs.inner.Rows.{Symbols}

abbrev pub symbols_of : Row → Symbols
symbols_of row = record { kinds = row.kinds.items; sets = row.sets.items; rules = row.rules.items }

abbrev pub edges_of : List (Vec Sym) → List (List Sym)
edges_of edges = map (λ row. row.items) edges
