-- Beside `../Following.antt`: what private functions and proofs need.
use Rattle.std.specs.Prelude.{◌↔◌, ◌⊎◌, ℕ, List}
use Rattle.std.specs.List.{Contains}
use Rattle.normal_form.specs.declared.normal.Sym.{Sym}
use Rattle.normal_form.specs.Form.{NormalForm}
use Rattle.chart_parser_ends.specs.inner.Exact.{IsTokenOf}

-- A token of this kind is what one of the symbols is.
abbrev pub IsTokenOfOne : NormalForm → List Sym → ℕ → Type 0
IsTokenOfOne N symbols kind = (s : Sym) × Contains symbols s × IsTokenOf N s kind

-- The list has what it had, and each kind that P holds of.
abbrev pub AddsKinds : (ℕ → Type 0) → List ℕ → List ℕ → Type 0
AddsKinds P old new = (k : ℕ) → Contains new k ↔ (Contains old k ⊎ P k)
