-- What a list of the nodes that are left says of the tree that they are. Each node is before those below it, and the nodes are in the list from left to right.
use Rattle.std.specs.Prelude.{ℕ, suc, Bool, true, false, not, List, [], ◌∷◌, Option, Some, None, ◌||◌, if◌then◌else◌, map, filter, nat_eq}
use Rattle.std.specs.List.{list_any}
use Rattle.normal_form.specs.declared.normal.Sym.{Sym}
use Rattle.normal_form.specs.declared.normal.Sym.TheVariants.{Kind, Set, Rule}
use Rattle.syntax_tree.specs.declared.node.Node.{Node}
use Rattle.plain_reductions.specs.declared.nodes.LeftNode.{LeftNode}

-- a node of the parsed tree, with its number
abbrev pub left_node : ℕ → Node → LeftNode
left_node number node = record { number = number; symbol = node.sym; slot = node.slot; parent = node.parent; token = node.first }

-- the nodes of a parsed tree, from this number on
abbrev pub left_nodes : ℕ → List Node → List LeftNode
left_nodes number [] = []
left_nodes number (node ∷ nodes) = left_node number node ∷ left_nodes (suc number) nodes

-- whether the number is this one, if there is any
abbrev pub is_number : ℕ → Option ℕ → Bool
is_number number None = false
is_number number (Some other) = nat_eq other number

-- whether a node with this number is among these
abbrev pub is_among : List LeftNode → ℕ → Bool
is_among nodes number = list_any (λ (node : LeftNode). nat_eq node.number number) nodes

-- whether the symbol is one of leaves
abbrev pub is_token : Sym → Bool
is_token (Kind k) = true
is_token (Set s) = true
is_token (Rule r) = false

-- the children of a node, from left to right
abbrev pub children_of : List LeftNode → LeftNode → List LeftNode
children_of tree parent = filter (λ (node : LeftNode). is_number parent.number node.parent) tree

-- the tokens of the leaves among these nodes, in the order of the nodes
abbrev pub tokens_of : List LeftNode → List ℕ
tokens_of nodes = map (λ (node : LeftNode). node.token) (filter (λ (node : LeftNode). is_token node.symbol) nodes)

-- the nodes that aren't among those that go, and those that stay
abbrev pub without : List LeftNode → List LeftNode → List LeftNode → List LeftNode
without gone stay tree = filter (λ (node : LeftNode). is_among stay node.number || not (is_among gone node.number)) tree

-- the node with this number has the position of another one: it is below the same node, in the same slot
abbrev pub put_at : LeftNode → ℕ → LeftNode → LeftNode
put_at position number node =
    if nat_eq node.number number then record { number = node.number; symbol = node.symbol; slot = position.slot; parent = position.parent; token = node.token }
    else node
