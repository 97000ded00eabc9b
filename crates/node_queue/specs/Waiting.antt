-- Nodes that wait, in the order in which they are taken out.
use Rattle.std.specs.Prelude.{◌≡◌, ℕ, ◌==◌, ◌&&◌, ◌||◌, nat_lt, Bool, false, List, [], ◌∷◌, if◌then◌else◌}
use Rattle.std.specs.List.{AllByRecursion}

-- a node that waits: its number, its weight, and its first token's position
pub record Waiting : Type 0 where
  pub node : ℕ
  pub weight : ℕ
  pub first : ℕ

-- the greater weight comes first; of equal weights, the smaller first token; of equal ones too, the smaller number
abbrev pub comes_before : Waiting → Waiting → Bool
comes_before a b =
    nat_lt b.weight a.weight
    || (b.weight == a.weight && (nat_lt a.first b.first
    || (a.first == b.first && nat_lt a.node b.node)))

-- the queue with one node more, which comes after those that come before it
abbrev pub with_node : Waiting → List Waiting → List Waiting
with_node added [] = added ∷ []
with_node added (next ∷ later) = if comes_before next added then next ∷ with_node added later else added ∷ next ∷ later

-- none of the later ones comes before an earlier one
abbrev pub IsInOrder : List Waiting → Type 0
IsInOrder [] = Unit {0}
IsInOrder (next ∷ later) = AllByRecursion (λ other. comes_before other next ≡ false) later × IsInOrder later
