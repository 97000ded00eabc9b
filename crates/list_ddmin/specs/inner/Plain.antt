-- What the plain recursion has asked so far, and how it goes from flags to positions and back.
use Rattle.std.specs.Prelude.{◌≡◌, ℕ, ◌+◌, ◌<◌, ◌==◌, zero, suc, Bool, true, false, List, [], ◌∷◌, ◌++◌, Option, Some, None}
use Rattle.std.specs.List.{list_any}
use Rattle.list_ddmin.specs.declared.plain.Side.{Side}
use Rattle.list_ddmin.specs.declared.plain.Side.TheVariants.{Part, Complement}
use Rattle.list_ddmin.specs.ListStep.{Outcome, part, complement, tried}

-- These questions were asked before, and then all that the outcome asks.
abbrev pub asks_before : List (List Bool) → Outcome → Outcome
asks_before questions o = record { questions = questions ++ o.questions; result = o.result }

-- the candidates of one row: the parts, or their complements
abbrev pub candidate_of : Side → List Bool → ℕ → ℕ → List Bool
candidate_of Part keep n i = part keep n i
candidate_of Complement keep n i = complement keep n i

-- what follows the row: what the first yes goes on with, or what comes without one
abbrev pub follows : (List Bool → Outcome) → Outcome → Option (List Bool) → Outcome
follows on_yes on_no None = on_no
follows on_yes on_no (Some found) = on_yes found

-- The row of n candidates was tried with this first yes, and so the questions grew from old to new.
abbrev pub IsTried : (List Bool → Bool) → (ℕ → List Bool) → ℕ → List (List Bool) → List (List Bool) → Option (List Bool) → Type 0
IsTried verdict candidate n old new found = (on_yes : List Bool → Outcome) (on_no : Outcome) →
    asks_before old (tried verdict candidate on_yes on_no 0 n) ≡ asks_before new (follows on_yes on_no found)

-- This is one of the n candidates.
abbrev pub IsOneOf : (ℕ → List Bool) → ℕ → List Bool → Type 0
IsOneOf candidate n found = (i : ℕ) × (i < n) × (found ≡ candidate i)

-- the positions of the kept elements, where the first element has the position that is given
abbrev pub positions_from : ℕ → List Bool → List ℕ
positions_from k [] = []
positions_from k (true ∷ keep) = k ∷ positions_from (k + 1) keep
positions_from k (false ∷ keep) = positions_from (k + 1) keep

-- a flag for each of so many positions from k on: is it among these?
abbrev pub flags_of : List ℕ → ℕ → ℕ → List Bool
flags_of positions k zero = []
flags_of positions k (suc n) = list_any (λ p. p == k) positions ∷ flags_of positions (k + 1) n
