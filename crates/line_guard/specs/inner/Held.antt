-- What a wish looks for in lines, and whether a flag of some lines is set.
use Rattle.std.specs.Prelude.{ℕ, ◌+◌, ◌&&◌, ◌||◌, Bool, false, List, [], ◌∷◌}
use Rattle.line_guard.specs.declared.wish.Wish.{Wish}
use Rattle.line_guard.specs.declared.wish.Wish.TheVariants.{Lines, Holding, Only}
use Rattle.line_guard.specs.Protected.{is_within}

-- the texts that a protected line must hold
abbrev pub held_by : Wish → List (List ℕ)
held_by (Lines first last) = []
held_by (Holding text) = text ∷ []
held_by (Only first last) = []

-- a flag is set of those from the first to the last, where the first of the list has this number
abbrev pub any_within : ℕ → ℕ → ℕ → List Bool → Bool
any_within first last number [] = false
any_within first last number (flag ∷ flags) = (is_within first last number && flag) || any_within first last (number + 1) flags
