-- Graphs whose nodes are numbers from 0, each with a row of the nodes that it leads to.
use Rattle.std.specs.Prelude.{◌≡◌, ℕ, ◌<◌, Bool, true, false, List, Some, slice_get, slice_index_or, length}
use Rattle.std.specs.List.{Contains}

-- There is an edge from the node i to the node j.
abbrev pub HasEdge : List (List ℕ) → ℕ → ℕ → Type 0
HasEdge rows i j = (row : List ℕ) × (slice_get rows i ≡ Some row) × Contains row j

-- A path of at least one edge leads from the node i to the node j.
pub data Reaches (rows : List (List ℕ)) : ℕ → ℕ → Type 0 where
  by_edge : (i j : ℕ) → HasEdge rows i j → Reaches rows i j
  by_edges : (i m j : ℕ) → HasEdge rows i m → Reaches rows m j → Reaches rows i j

-- A path leads from the node back to it.
abbrev pub IsOnCycle : List (List ℕ) → ℕ → Type 0
IsOnCycle rows i = Reaches rows i i

-- Each edge leads to one of the nodes.
abbrev pub IsClosed : List (List ℕ) → Type 0
IsClosed rows = (i j : ℕ) → HasEdge rows i j → j < length rows

-- The table says exactly which nodes some edge leads to.
abbrev pub AreTargets : List (List ℕ) → List Bool → Type 0
AreTargets rows flags =
    (j : ℕ) → (slice_index_or flags j false ≡ true → (i : ℕ) × HasEdge rows i j) × ((i : ℕ) → HasEdge rows i j → slice_index_or flags j false ≡ true)
