-- What a list step has asked by its end, and what its answers keep.
use Rattle.std.specs.Prelude.{◌≡◌, ◌<◌, ◌≤◌, ◌⊎◌, ℕ, Bool, true, false, List, [], ◌∷◌, Some, slice_get, slice_set}
use Rattle.list_ddmin.specs.ListStep.{kept_count, list_step}
use Rattle.list_ddmin.specs.Machine.{State, Nothing, Parts, Complements, End, IsSound, asks, kept, start, after}

-- the keep list is one of these questions
abbrev pub WasAsked : List (List Bool) → List Bool → Type 0
WasAsked [] keep = ⊥
WasAsked (question ∷ questions) keep = (question ≡ keep) ⊎ WasAsked questions keep

-- The first keep list keeps only elements that the second keeps: it has a flag for each of the same elements, and each that is true is true in the second.
abbrev pub KeepsOnlyOf : List Bool → List Bool → Type 0
KeepsOnlyOf [] [] = Unit {0}
KeepsOnlyOf [] (kept ∷ keep) = ⊥
KeepsOnlyOf (asked ∷ question) [] = ⊥
KeepsOnlyOf (asked ∷ question) (kept ∷ keep) = (asked ≡ true → kept ≡ true) × KeepsOnlyOf question keep

-- The first keep list keeps only elements that the second keeps, and not all of them.
pub record KeepsFewer (question keep : List Bool) : Type 0 where
  pub only : KeepsOnlyOf question keep
  pub fewer : kept_count question < kept_count keep

-- it asks whether all elements may go
abbrev pub IsNothing : State → Type 0
IsNothing (Nothing len) = Unit {0}
IsNothing (Parts keep n i) = ⊥
IsNothing (Complements keep n i) = ⊥
IsNothing (End keep) = ⊥

-- The laws.

-- Each keep list with one element fewer than the end was asked, so also a map that is known at the questions alone
-- says no to it. Where not all elements may go, this is said of an end with two elements or more.
abbrev pub DeletionsAsked : Type 0
DeletionsAsked = (verdict : List Bool → Bool) (len k : ℕ) →
    (slice_get (list_step verdict len true).result k ≡ Some true
    → WasAsked (list_step verdict len true).questions (slice_set (list_step verdict len true).result k false))
    × (2 ≤ kept_count (list_step verdict len false).result → slice_get (list_step verdict len false).result k ≡ Some true
    → WasAsked (list_step verdict len false).questions (slice_set (list_step verdict len false).result k false))

-- A state asks for some of the elements that it keeps, and not for all of them. It asks for at least one, unless it asks whether all may go.
abbrev pub AsksFewer : Type 0
AsksFewer = (state : State) (question : List Bool) → IsSound state → asks state ≡ Some question →
    KeepsFewer question (kept state) × ((0 < kept_count question) ⊎ IsNothing state)

-- Whether all may go is asked at a start alone, and only where all may go.
abbrev pub AsksForNothingFirst : Type 0
AsksForNothingFirst = ((state : State) (answer : Bool) → IsNothing (after state answer) → ⊥) × ((len : ℕ) → IsNothing (start len false) → ⊥)
