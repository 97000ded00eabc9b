-- The list step as a machine: it says what it asks, is given the answer, and so goes on.
-- The laws at the end tie it to the definition of the list step.
use Rattle.std.specs.Prelude.{◌≡◌, ℕ, ◌+◌, ◌-◌, ◌*◌, ◌<◌, ◌≤◌, min, max, Bool, true, false, ◌&&◌, nat_lt, zero, suc, ◌++◌, take, drop}
use Rattle.std.specs.Prelude.{slice_range, if◌then◌else◌, List, [], ◌∷◌, length, replicate, Option, Some, None}
use Rattle.std.specs.List.{AllByRecursion}
use Rattle.list_ddmin.specs.ListStep.{border, kept_count, kept_of, part, complement, Outcome, ends_with, asks_first}
use Rattle.list_ddmin.specs.ListStep.{complements_tried, parts_tried, ddmin, list_step, IsOneMinimal}

-- Where the list step is.
-- Nothing: it asks whether all of so many elements may go.
-- Parts, Complements: it asks for a part, or for the kept elements without it. They have what is kept, the number of parts, and which part is next, from 0.
-- End: it asks nothing more, and this is kept.
pub data State : Type 0 where
  Nothing : ℕ → State
  Parts : List Bool → ℕ → ℕ → State
  Complements : List Bool → ℕ → ℕ → State
  End : List Bool → State

-- what the next candidate keeps
abbrev pub asks : State → Option (List Bool)
asks (Nothing len) = Some (replicate len false)
asks (Parts keep n i) = Some (part keep n i)
asks (Complements keep n i) = Some (complement keep n i)
asks (End keep) = None

-- what the last yes kept, and all elements before a yes
abbrev pub kept : State → List Bool
kept (Nothing len) = replicate len true
kept (Parts keep n i) = keep
kept (Complements keep n i) = keep
kept (End keep) = keep

-- where ddmin of these elements in n parts begins
abbrev pub begun : List Bool → ℕ → State
begun keep n = if nat_lt (kept_count keep) 2 then End keep else Parts keep n 0

-- where the list step over so many elements begins
abbrev pub start : ℕ → Bool → State
start len may_be_empty = if may_be_empty && nat_lt 0 len then Nothing len else begun (replicate len true) 2

-- the state after an answer
abbrev pub after : State → Bool → State
after (Nothing len) answer = if answer then End (replicate len false) else begun (replicate len true) 2
after (Parts keep n i) answer =
    if answer then begun (part keep n i) 2
    else if nat_lt (i + 1) n then Parts keep n (i + 1) else Complements keep n 0
after (Complements keep n i) answer =
    if answer then begun (complement keep n i) (max (n - 1) 2)
    else if nat_lt (i + 1) n then Complements keep n (i + 1)
    else if nat_lt n (kept_count keep) then Parts keep (min (kept_count keep) (2 * n)) 0 else End keep
after (End keep) answer = End keep

-- There are at least two parts, none of them is empty, and part i is one of them.
pub record Numbers (keep : List Bool) (n i : ℕ) : Type 0 where
  pub two : 2 ≤ n
  pub fits : n ≤ kept_count keep
  pub at : i < n

-- what holds of each state that comes from a start by answers
abbrev pub IsSound : State → Type 0
IsSound (Nothing len) = 0 < len
IsSound (Parts keep n i) = Numbers keep n i
IsSound (Complements keep n i) = Numbers keep n i
IsSound (End keep) = Unit {0}

-- what of the list step is still to come at a state
abbrev pub rest_of : (List Bool → Bool) → State → Outcome
rest_of verdict (Nothing len) =
    asks_first (replicate len false) (if verdict (replicate len false) then ends_with (replicate len false) else ddmin verdict (replicate len true) 2)
rest_of verdict (Parts keep n i) = parts_tried verdict (λ found m. ddmin verdict found m) keep n i (n - i)
rest_of verdict (Complements keep n i) = complements_tried verdict (λ found m. ddmin verdict found m) keep n i (n - i)
rest_of verdict (End keep) = ends_with keep

-- A machine that is answered from verdict asks these questions in order, and then is at its end and keeps this.
abbrev pub Answered : (List Bool → Bool) → State → List (List Bool) → List Bool → Type 0
Answered verdict state [] result = (asks state ≡ None) × (kept state ≡ result)
Answered verdict state (question ∷ questions) result =
    (asks state ≡ Some question) × Answered verdict (after state (verdict question)) questions result

-- at most so many answers, where so many elements are kept at first
abbrev pub left_within : ℕ → ℕ
left_within zero = 0
left_within (suc less) = 2 * suc less + suc less * (2 * suc less) + left_within less

-- at most so many answers until the end
abbrev pub left : State → ℕ
left (Nothing len) = 1 + left_within len
left (Parts keep n i) = (2 * n - i) + (kept_count keep - n) * (2 * kept_count keep) + left_within (kept_count keep - 1)
left (Complements keep n i) = (n - i) + (kept_count keep - n) * (2 * kept_count keep) + left_within (kept_count keep - 1)
left (End keep) = 0

-- The laws.

-- Answered from any map, the machine asks the questions of the list step in their order, and ends with its result.
abbrev pub FollowsListStep : Type 0
FollowsListStep = (verdict : List Bool → Bool) (len : ℕ) (may_be_empty : Bool) →
    Answered verdict (start len may_be_empty) (list_step verdict len may_be_empty).questions (list_step verdict len may_be_empty).result

-- The end of the list step is 1-minimal. Where not all elements may go, this is said of an end with two
-- elements or more: without its only element a list would be empty, and that was never asked.
abbrev pub EndsOneMinimal : Type 0
EndsOneMinimal = (verdict : List Bool → Bool) (len : ℕ) →
    IsOneMinimal verdict (list_step verdict len true).result
    × (2 ≤ kept_count (list_step verdict len false).result → IsOneMinimal verdict (list_step verdict len false).result)

-- The list step over two maps is the same, if they agree on what it asks over the first.
abbrev pub AgreeingMaps : Type 0
AgreeingMaps = (first second : List Bool → Bool) (len : ℕ) (may_be_empty : Bool) →
    AllByRecursion (λ question. first question ≡ second question) (list_step first len may_be_empty).questions →
    list_step first len may_be_empty ≡ list_step second len may_be_empty

-- ddmin is its three steps, over itself: the bound on how often it goes on is never met.
abbrev pub GoesByItsSteps : Type 0
GoesByItsSteps = (verdict : List Bool → Bool) (keep : List Bool) (n : ℕ) →
    (kept_count keep < 2 → ddmin verdict keep n ≡ ends_with keep)
    × (2 ≤ n → n ≤ kept_count keep → ddmin verdict keep n ≡ parts_tried verdict (λ found m. ddmin verdict found m) keep n 0 n)

-- A part is a slice of the kept elements, and its complement is the kept elements without the slice.
abbrev pub PartsAreSlices : Type 0 → Type 0
PartsAreSlices X = (keep : List Bool) (xs : List X) (n i : ℕ) → length xs ≡ length keep → 0 < n → n ≤ kept_count keep → i < n →
    (kept_of (part keep n i) xs ≡ slice_range (kept_of keep xs) (border (kept_count keep) n i) (border (kept_count keep) n (i + 1)))
    × (kept_of (complement keep n i) xs ≡ take (border (kept_count keep) n i) (kept_of keep xs) ++ drop (border (kept_count keep) n (i + 1)) (kept_of keep xs))

-- Each question of an outcome, and its result, has a flag for each of so many elements.
pub record HasLength (len : ℕ) (o : Outcome) : Type 0 where
  pub questions : AllByRecursion (λ question. length question ≡ len) o.questions
  pub result : length o.result ≡ len

-- The list step asks, and ends with, a flag for each of its elements.
abbrev pub QuestionsFit : Type 0
QuestionsFit = (verdict : List Bool → Bool) (len : ℕ) (may_be_empty : Bool) → HasLength len (list_step verdict len may_be_empty)

-- So does what is still to come at a state.
abbrev pub RestFits : Type 0
RestFits = (verdict : List Bool → Bool) (state : State) → HasLength (length (kept state)) (rest_of verdict state)

-- What a state asks has as many flags as what it keeps.
abbrev pub AsksAsKept : Type 0
AsksAsKept = (state : State) (question : List Bool) → asks state ≡ Some question → length question ≡ length (kept state)

-- An answer leaves the number of flags as it was, and at a start it is that of the elements.
abbrev pub KeepsLength : Type 0
KeepsLength = (state : State) (answer : Bool) → length (kept (after state answer)) ≡ length (kept state)

abbrev pub StartsWithAll : Type 0
StartsWithAll = (len : ℕ) (may_be_empty : Bool) → length (kept (start len may_be_empty)) ≡ len
