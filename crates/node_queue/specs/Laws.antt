-- What holds of a queue's nodes.
use Rattle.std.specs.Prelude.{◌≡◌, ◌⊎◌, ◌↔◌, ◌≤◌, ◌<◌, List, ◌∷◌, Contains}
use Rattle.node_queue.specs.Waiting.{IsInOrder, Waiting, with_node}

-- With one node more, a queue has this node and those that it had.
abbrev pub HasOneMore : Type 0
HasOneMore = (added node : Waiting) (queue : List Waiting) → Contains (with_node added queue) node ↔ ((node ≡ added) ⊎ Contains queue node)

-- A queue in order stays so with one node more.
abbrev pub StaysInOrder : Type 0
StaysInOrder = (added : Waiting) (queue : List Waiting) → IsInOrder queue → IsInOrder (with_node added queue)

-- of two nodes the first is heavier, or as heavy and its first token isn't after that of the second
abbrev pub IsNoLighter : Waiting → Waiting → Type 0
IsNoLighter node other = (other.weight < node.weight) ⊎ ((other.weight ≡ node.weight) × (node.first ≤ other.first))

-- In order, the next node is the heaviest, and of several such it is one whose first token is the first.
abbrev pub NextIsHeaviest : Type 0
NextIsHeaviest = (next : Waiting) (later : List Waiting) → IsInOrder (next ∷ later) → (other : Waiting) → Contains later other → IsNoLighter next other
