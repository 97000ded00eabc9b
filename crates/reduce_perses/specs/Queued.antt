-- The nodes of a tree that wait to be visited.
use Rattle.std.specs.Prelude.{◌≡◌, ℕ, ◌+◌, nat_lt, Bool, true, false, if◌then◌else◌, List, [], ◌∷◌, Some}
use Rattle.std.specs.List.{AllByRecursion}
use Rattle.std.specs.Option.{option_map_or}
use Rattle.node_queue.specs.Waiting.{IsInOrder, Waiting, with_node}
use Rattle.normal_form.specs.declared.normal.Sym.{Sym}
use Rattle.normal_form.specs.Form.{NormalForm}
use Rattle.syntax_tree.specs.Trees.{PlainTree, PlainTrees, leaves, size, weight, weight_all}
use Rattle.syntax_tree.specs.Valid.{IsTreeFor}
use Rattle.syntax_tree.specs.Numbered.{NumbersRise, number_of, subtree}
use Rattle.syntax_tree.specs.Left.{IsRemainderOf}

-- a tree waits that is a node and has a leaf
abbrev pub waits : PlainTree → Bool
waits (PlainTree.leaf n k i) = false
waits (PlainTree.node n r a ts) = nat_lt 0 (weight_all ts)

-- the first of these tokens
abbrev pub first_token : List ℕ → ℕ
first_token [] = 0
first_token (i ∷ tokens) = i

-- as it waits: its number, its weight, and its first leaf's token
abbrev pub waiting_of : PlainTree → Waiting
waiting_of t = record { node = number_of t; weight = weight t; first = first_token (leaves t) }

-- the queue with those of the trees that wait
abbrev pub with_trees : PlainTrees → List Waiting → List Waiting
with_trees PlainTrees.none queue = queue
with_trees (PlainTrees.next t ts) queue = with_trees ts (if waits t then with_node (waiting_of t) queue else queue)

-- The entry is that of a node of the tree that waits.
pub record IsEntryIn (t : PlainTree) (entry : Waiting) : Type 0 where
  pub node : PlainTree
  pub node_is : subtree entry.node t ≡ Some node
  pub waits_is : waits node ≡ true
  pub entry_is : waiting_of node ≡ entry

-- No node or leaf is in both trees.
abbrev pub AreApart : PlainTree → PlainTree → Type 0
AreApart u v = (p : ℕ) (x y : PlainTree) → subtree p u ≡ Some x → subtree p v ≡ Some y → ⊥

-- No node or leaf is in both nodes that these entries are of.
abbrev pub AreApartAt : PlainTree → Waiting → Waiting → Type 0
AreApartAt t entry other = (u v : PlainTree) → subtree entry.node t ≡ Some u → subtree other.node t ≡ Some v → AreApart u v

-- That is so of any two of these entries.
abbrev pub AreApartIn : PlainTree → List Waiting → Type 0
AreApartIn t [] = Unit {0}
AreApartIn t (entry ∷ queue) = AllByRecursion (AreApartAt t entry) queue × AreApartIn t queue

-- The queue is one of nodes of the tree that wait, in their order, and none of them is in another.
pub record IsQueueOf (t : PlainTree) (queue : List Waiting) : Type 0 where
  pub in_order : IsInOrder queue
  pub entries : AllByRecursion (IsEntryIn t) queue
  pub apart : AreApartIn t queue

-- A round is at this tree, which is one for the slot and whose numbers rise, with this queue.
pub record IsInRound (N : NormalForm) (s : Sym) (t : PlainTree) (queue : List Waiting) : Type 0 where
  pub tree : IsTreeFor N s t
  pub rise : NumbersRise t
  pub queue_is : IsQueueOf t queue

-- What holds of each tree in the rounds from the whole tree on: it is one for the slot, and left of the whole tree.
abbrev pub IsKeptTree : NormalForm → Sym → PlainTree → PlainTree → Type 0
IsKeptTree N s whole t = IsTreeFor N s t × IsRemainderOf whole t

-- how many nodes and leaves of the tree are in those that wait
abbrev pub nodes_in : PlainTree → List Waiting → ℕ
nodes_in t [] = 0
nodes_in t (entry ∷ queue) = option_map_or size (subtree entry.node t) 0 + nodes_in t queue
