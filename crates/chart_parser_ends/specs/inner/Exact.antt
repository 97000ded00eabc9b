-- What the entries of a chart are.
use Rattle.std.specs.Prelude.{◌≡◌, ℕ, List, Some, slice_get}
use Rattle.std.specs.List.{Contains}
use Rattle.normal_form.specs.declared.normal.Sym.{Sym}
use Rattle.normal_form.specs.declared.normal.Sym.TheVariants.{Kind, Set, Rule}
use Rattle.normal_form.specs.Form.{NormalForm}
use Rattle.normal_form.specs.Spans.{DerivesSpan}
use Rattle.chart_parser_ends.specs.inner.Entries.{Entry}
use Rattle.chart_parser_ends.specs.Positions.{HasExactly}

-- One token of this kind is what the symbol is.
abbrev pub IsTokenOf : NormalForm → Sym → ℕ → Type 0
IsTokenOf N (Kind k) kind = k ≡ kind
IsTokenOf N (Set g) kind = (ks : List ℕ) × (slice_get N.sets g ≡ Some ks) × Contains ks kind
IsTokenOf N (Rule r) kind = ⊥

-- An entry has exactly the positions where its rule can end, rising.
abbrev pub IsExact : NormalForm → List ℕ → Entry → Type 0
IsExact N kinds e = HasExactly (DerivesSpan N kinds (Rule e.rule) e.first) e.ends
