-- What a table by which an NFA is read says.
use Rattle.std.specs.Prelude.{◌≡◌, ◌↔◌, ◌<◌, ◌+◌, ◌*◌, ℕ, true, List, [], ◌∷◌, Option, Some, None, Vec, slice_get, length, ⊤}
use Rattle.lexer_match.specs.declared.nfa.State.{State}
use Rattle.lexer_match.specs.declared.table.Reached.{Reached}
use Rattle.lexer_match.specs.declared.table.Step.{Step}
use Rattle.lexer_match.specs.declared.table.Table.{Table}
use Rattle.lexer_match.specs.Nfa.{Reads}
use Rattle.lexer_match.specs.StateSets.{ReadsFrom}

-- the states of a set, where there is one
abbrev pub states_in : {A : Type 0} → Option (Vec ℕ A) → List ℕ
states_in None = []
states_in (Some set) = set.items

-- the states of the set with this number; none where there is no such set
abbrev pub states_of : {A : Type 0} → List (Vec ℕ A) → ℕ → List ℕ
states_of {A} sets n = states_in (slice_get sets n)

-- From the states of the set the texts of the language are read; the set ends where the empty text is one of them, and goes on where a longer text is.
pub record IsReached {A : Type 0} (P : List State) (sets : List (Vec ℕ A)) (Language : List ℕ → Type 0) (r : Reached) : Type 0 where
  pub inside : r.set < length sets
  pub reads : (w : List ℕ) → ReadsFrom P (states_of sets r.set) w ↔ Language w
  pub ends : (r.ends ≡ true) ↔ Language []
  pub goes_on : (r.goes_on ≡ true) ↔ ((c : ℕ) × (w : List ℕ) × Language (c ∷ w))

-- what is read from the states of a set after the character
abbrev pub AfterSet : {A : Type 0} → List State → List (Vec ℕ A) → ℕ → ℕ → List ℕ → Type 0
AfterSet {A} P sets set c w = ReadsFrom P (states_of sets set) (c ∷ w)

-- The step says what is read from the set after the character, if anything.
abbrev pub IsStep : {A : Type 0} → List State → List (Vec ℕ A) → ℕ → ℕ → Step → Type 0
IsStep {A} P sets set c Step.Unknown = ⊤
IsStep {A} P sets set c Step.Stuck = (w : List ℕ) → ¬ AfterSet P sets set c w
IsStep {A} P sets set c (Step.To r) = IsReached P sets (AfterSet P sets set c) r

-- The steps are those of the sets, one set after another, for each by the characters below 128.
abbrev pub AreSteps : {A : Type 0} → List State → List (Vec ℕ A) → List Step → Type 0
AreSteps {A} P sets steps = (set c : ℕ) (step : Step) → c < 128 → slice_get steps (set * 128 + c) ≡ Some step → (set < length sets) × IsStep P sets set c step

-- where a reading from the state with this index begins, if that is known
abbrev pub AreStarts : {A : Type 0} → List State → List (Vec ℕ A) → List (Option Reached) → Type 0
AreStarts {A} P sets starts = (state : ℕ) (r : Reached) → slice_get starts state ≡ Some (Some r) → IsReached P sets (Reads P state) r

-- The table is right: its steps and its starts are, by the sets that it has.
pub record IsTable (P : List State) (t : Table) : Type 0 where
  pub steps : AreSteps P t.sets.items t.steps.items
  pub starts : AreStarts P t.sets.items t.starts.items
