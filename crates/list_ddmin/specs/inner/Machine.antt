-- Beside `../Machine.antt`: what private functions and proofs need.
use Rattle.std.specs.Prelude.{◌≡◌, ℕ, ◌<◌, Bool, List, length, Some, None}
use Rattle.list_ddmin.specs.ListStep.{kept_count, kept_of, ends_with, asks_first, list_step}
use Rattle.list_ddmin.specs.Machine.{left, State, IsSound, asks, rest_of, after, kept, start}

-- What one answer does: the rest of the list step is this question and then the rest at the next state, which is sound, and fewer answers are left.
abbrev pub GoesOn : Type 0
GoesOn = (verdict : List Bool → Bool) (state : State) (question : List Bool) → IsSound state → asks state ≡ Some question →
    (rest_of verdict state ≡ asks_first question (rest_of verdict (after state (verdict question))))
    × ((answer : Bool) → IsSound (after state answer) × (left (after state answer) < left state))

-- A machine that asks nothing has nothing of the list step before it.
abbrev pub StopsAtEnd : Type 0
StopsAtEnd = (verdict : List Bool → Bool) (state : State) → asks state ≡ None → rest_of verdict state ≡ ends_with (kept state)

-- At a start the machine has the whole list step before it.
abbrev pub BeginsListStep : Type 0
BeginsListStep = (verdict : List Bool → Bool) (len : ℕ) (may_be_empty : Bool) →
    IsSound (start len may_be_empty) × (rest_of verdict (start len may_be_empty) ≡ list_step verdict len may_be_empty)

-- As many elements are kept as are counted.
abbrev pub CountsKept : Type 0 → Type 0
CountsKept X = (keep : List Bool) (xs : List X) → length xs ≡ length keep → length (kept_of keep xs) ≡ kept_count keep

-- What is asked keeps fewer elements than what is kept, so each yes is a smaller list.
abbrev pub EachYesIsSmaller : Type 0
EachYesIsSmaller = (state : State) (question : List Bool) → IsSound state → asks state ≡ Some question → kept_count question < kept_count (kept state)
