-- Beside `../Selections.antt`: what private functions and proofs need.
use Rattle.std.specs.Prelude.{◌≡◌, ◌<◌, ◌⊎◌, Bool, List}
use Rattle.list_ddmin.specs.ListStep.{kept_count}
use Rattle.list_ddmin.specs.Machine.{State, kept}
use Rattle.list_ddmin.specs.Asked.{KeepsFewer, IsNothing}

-- The same at a state of the list step's machine: some of the elements that it keeps, but not all of them; and at least one, unless it asks whether all may go.
pub record IsSelectionAt (step : State) (keep : List Bool) : Type 0 where
  pub fewer : KeepsFewer keep (kept step)
  pub some : (0 < kept_count keep) ⊎ IsNothing step

-- all elements that the state keeps, or a selection of them
abbrev pub IsRemainderAt : State → List Bool → Type 0
IsRemainderAt step keep = (keep ≡ kept step) ⊎ IsSelectionAt step keep
