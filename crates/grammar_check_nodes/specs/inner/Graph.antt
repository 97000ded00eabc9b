-- Beside `../Graph.antt`: what private functions and proofs need.
use Rattle.std.specs.Prelude.{ℕ, ◌<◌, ◌≤◌, Bool, List, [], ◌∷◌, ◌++◌, slice_index, nat_eq, if◌then◌else◌}
use Rattle.std.specs.List.{Contains, fold, list_any}
use Rattle.grammar_check_nodes.specs.Graph.{HasEdge, Reaches}

-- No edge leads to a node with a greater number.
abbrev pub NeverRises : List (List ℕ) → List ℕ → Type 0
NeverRises rows numbers = (i j : ℕ) → HasEdge rows i j → slice_index numbers j ≤ slice_index numbers i

-- the number is among these
abbrev pub is_among : List ℕ → ℕ → Bool
is_among found j = list_any (λ k. nat_eq k j) found

-- the numbers with one more, unless it is among them
abbrev pub with_new : List ℕ → ℕ → List ℕ
with_new found j = if is_among found j then found else found ++ j ∷ []

-- the numbers with those of a row
abbrev pub with_row : List ℕ → List ℕ → List ℕ
with_row found row = fold with_new found row

-- A search from a node has found only nodes that it reaches; it has found those of the node's own
-- row, and those of the rows of the first ones that it has found, which are this many.
pub record IsSearched (rows : List (List ℕ)) (node : ℕ) (found : List ℕ) (done : ℕ) : Type 0 where
  pub sound : (j : ℕ) → Contains found j → Reaches rows node j
  pub began : (j : ℕ) → HasEdge rows node j → Contains found j
  pub closed : (k j : ℕ) → k < done → HasEdge rows (slice_index found k) j → Contains found j

-- The nodes that are found are those that edges from the first nodes lead to.
pub record AreFound (rows : List (List ℕ)) (found : List ℕ) (done : ℕ) : Type 0 where
  pub only : (j : ℕ) → Contains found j → (i : ℕ) × HasEdge rows i j
  pub all : (i j : ℕ) → i < done → HasEdge rows i j → Contains found j
