-- The entries of a chart, as contracts see them.
use Rattle.std.specs.Prelude.{ℕ, List}
use Rattle.std.specs.List.{Contains}

-- The positions where a rule can end that begins at the position `first`.
pub record Entry : Type 0 where
  pub rule : ℕ
  pub first : ℕ
  pub ends : List ℕ

abbrev pub entry : ℕ → ℕ → List ℕ → Entry
entry rule first ends = record { rule = rule; first = first; ends = ends }

-- There is an entry of the rule at the position `first`.
abbrev pub HasEntry : List Entry → ℕ → ℕ → Type 0
HasEntry entries rule first = (ends : List ℕ) × Contains entries (entry rule first ends)
