-- Beside `../Nodes.antt`: what private functions and proofs need.
use Rattle.std.specs.Prelude.{◌≡◌, ℕ, ◌+◌, ⊤, List, Some, slice_get}
use Rattle.normal_form.specs.declared.normal.Sym.{Sym}
use Rattle.normal_form.specs.Form.{NormalForm}
use Rattle.syntax_tree.specs.declared.node.Node.{Node}
use Rattle.syntax_tree.specs.Trees.{PlainTree, PlainTrees, size}
use Rattle.syntax_tree.specs.Numbered.{subtree}
use Rattle.syntax_tree.specs.Nodes.{AreNodesOf, whole_of}

-- These are the nodes of the tree of all tokens of some input.
abbrev pub AreNodes : List Node → Type 0
AreNodes nodes = (N : NormalForm) × (s : Sym) × AreNodesOf N s nodes (whole_of nodes)

-- For each node, at the index that is its number, the number after those of the node and of all below it.
abbrev pub AreAfters : List ℕ → PlainTree → Type 0
AreAfters after t = (q : ℕ) (u : PlainTree) → subtree q t ≡ Some u → slice_get after q ≡ Some (q + size u)

-- That is so of these trees, of which the first has the number n, but perhaps not of what is below them.
abbrev pub HaveAfters : List ℕ → ℕ → PlainTrees → Type 0
HaveAfters after n PlainTrees.none = ⊤
HaveAfters after n (PlainTrees.next t ts) = (slice_get after n ≡ Some (n + size t)) × HaveAfters after (n + size t) ts
