-- The kinds that symbols stand for.
use Rattle.std.specs.Prelude.{◌≡◌, ◌↔◌, ℕ, ◌<◌, Bool, List, length, take, IsTrue}
use Rattle.chart_parser_ends.specs.Positions.{HasExactly}

-- The kinds are the first eight, by their numbers, of all that P holds of, and `more` says whether there are others.
pub record AreFirst (P : ℕ → Type 0) (kinds : List ℕ) (more : Bool) : Type 0 where
  pub all : List ℕ
  pub exact : HasExactly P all
  pub first : kinds ≡ take 8 all
  pub rest : IsTrue more ↔ (8 < length all)
