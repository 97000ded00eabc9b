-- Delta debugging over a list: ddmin of Zeller and Hildebrandt ("Simplifying and Isolating
-- Failure-Inducing Input", 2002), and the questions that it asks in order.
--
-- A list of elements is cut into n parts. If one part alone will do, the procedure goes on with it in two parts. Otherwise, if the list without
-- one part will do, it goes on with that in n - 1 parts. Otherwise it cuts finer, into 2 n parts, until each part is one element.
-- The list step tries the empty list first, where the list may be empty.
--
-- What is asked is a keep list: it has a flag for each element of the whole list, and the element
-- is kept where the flag is true. A verdict answers each keep list: true is yes.
use Rattle.std.specs.Prelude.{◌≡◌, ℕ, ◌+◌, ◌-◌, ◌*◌, ◌/◌, min, max, suc, zero, Bool, true, false, not, ◌&&◌, nat_lt, nat_le}
use Rattle.std.specs.Prelude.{if◌then◌else◌, cond, List, [], ◌∷◌, replicate, Some, slice_get, slice_set}

-- how many elements are kept
abbrev pub kept_count : List Bool → ℕ
kept_count [] = 0
kept_count (kept ∷ keep) = cond kept 1 0 + kept_count keep

-- the elements that are kept, in their order
abbrev pub kept_of : {X : Type 0} → List Bool → List X → List X
kept_of [] xs = []
kept_of (kept ∷ keep) [] = []
kept_of (true ∷ keep) (x ∷ xs) = x ∷ kept_of keep xs
kept_of (false ∷ keep) (x ∷ xs) = kept_of keep xs

-- Of the kept elements those whose place passes a test. A place counts the kept elements alone: the first kept element of the list has the place that is given.
abbrev pub kept_where : (ℕ → Bool) → ℕ → List Bool → List Bool
kept_where test place [] = []
kept_where test place (true ∷ keep) = test place ∷ kept_where test (place + 1) keep
kept_where test place (false ∷ keep) = false ∷ kept_where test place keep

-- the place where part i of n begins, the first part being part 0, in a list of this size
abbrev pub border : ℕ → ℕ → ℕ → ℕ
border size n i = i * size / n

-- Part i has the places from its border up to, but not including, the next border.
abbrev pub is_in_part : ℕ → ℕ → ℕ → ℕ → Bool
is_in_part size n i place = nat_le (border size n i) place && nat_lt place (border size n (i + 1))

-- part i of n of the kept elements
unfoldable pub part : List Bool → ℕ → ℕ → List Bool
part keep n i = kept_where (is_in_part (kept_count keep) n i) 0 keep

-- the kept elements that aren't in part i of n
unfoldable pub complement : List Bool → ℕ → ℕ → List Bool
complement keep n i = kept_where (λ place. not (is_in_part (kept_count keep) n i place)) 0 keep

-- what a procedure asks, in order, and what it ends with
pub record Outcome : Type 0 where
  pub questions : List (List Bool)
  pub result : List Bool

-- It asks nothing more.
abbrev pub ends_with : List Bool → Outcome
ends_with keep = record { questions = []; result = keep }

-- It asks this, and then all that the outcome asks.
abbrev pub asks_first : List Bool → Outcome → Outcome
asks_first question o = record { questions = question ∷ o.questions; result = o.result }

-- The candidates from number i on, `left` of them, are tried in order. The procedure goes on with the first yes, and by `on_no` where each answer is no.
abbrev pub tried : (List Bool → Bool) → (ℕ → List Bool) → (List Bool → Outcome) → Outcome → ℕ → ℕ → Outcome
tried verdict candidate on_yes on_no i zero = on_no
tried verdict candidate on_yes on_no i (suc left) =
    asks_first (candidate i) (if verdict (candidate i) then on_yes (candidate i) else tried verdict candidate on_yes on_no (i + 1) left)

-- The steps of ddmin. Each goes on by `go`, with a list and a number of parts.
-- Third step: twice as many parts, at most as many as elements. Where each part is one element already, this is the end.
abbrev pub finer : (List Bool → ℕ → Outcome) → List Bool → ℕ → Outcome
finer go keep n = if nat_lt n (kept_count keep) then go keep (min (kept_count keep) (2 * n)) else ends_with keep

-- Second step: the complements of the parts, from number i on, `left` of them. A yes goes on with one part fewer, at least two.
abbrev pub complements_tried : (List Bool → Bool) → (List Bool → ℕ → Outcome) → List Bool → ℕ → ℕ → ℕ → Outcome
complements_tried verdict go keep n = tried verdict (complement keep n) (λ found. go found (max (n - 1) 2)) (finer go keep n)

-- First step: the parts, from number i on, `left` of them. A yes goes on with two parts.
abbrev pub parts_tried : (List Bool → Bool) → (List Bool → ℕ → Outcome) → List Bool → ℕ → ℕ → ℕ → Outcome
parts_tried verdict go keep n = tried verdict (part keep n) (λ found. go found 2) (complements_tried verdict go keep n 0 n)

-- ddmin, where it may go on so many times
unfoldable pub ddmin_within : ℕ → (List Bool → Bool) → List Bool → ℕ → Outcome
ddmin_within zero verdict keep n = ends_with keep
ddmin_within (suc calls) verdict keep n =
    if nat_lt (kept_count keep) 2 then ends_with keep
    else parts_tried verdict (λ found m. ddmin_within calls verdict found m) keep n 0 n

-- It goes on fewer times than this, since each time it has fewer elements or more parts.
abbrev pub enough_calls : ℕ → ℕ → ℕ
enough_calls size n = suc (size * size + (size - n))

-- ddmin of the kept elements in n parts
unfoldable pub ddmin : (List Bool → Bool) → List Bool → ℕ → Outcome
ddmin verdict keep n = ddmin_within (enough_calls (kept_count keep) n) verdict keep n

-- The list step over so many elements, all of them kept at first: the empty list, where there are
-- elements and all may go, and at a no, or where they may not, ddmin in two parts.
unfoldable pub list_step : (List Bool → Bool) → ℕ → Bool → Outcome
list_step verdict len may_be_empty =
    if may_be_empty && nat_lt 0 len
    then asks_first (replicate len false) (if verdict (replicate len false) then ends_with (replicate len false) else ddmin verdict (replicate len true) 2)
    else ddmin verdict (replicate len true) 2

-- 1-minimal, in the words of the paper: without any one of the kept elements the verdict is no.
abbrev pub IsOneMinimal : (List Bool → Bool) → List Bool → Type 0
IsOneMinimal verdict keep = (k : ℕ) → slice_get keep k ≡ Some true → verdict (slice_set keep k false) ≡ false
