-- Nodes that were made, and those that are still asked for.
use Rattle.std.specs.Prelude.{◌≡◌, ⊤, ℕ, ◌+◌, List, [], ◌∷◌, ◌++◌, Some, length}
use Rattle.normal_form.specs.declared.normal.Sym.TheVariants.{Kind}
use Rattle.normal_form.specs.Form.{NormalForm}
use Rattle.normal_form.specs.Spans.{DerivesSpan}
use Rattle.syntax_tree.specs.declared.node.Node.{Node}
use Rattle.syntax_tree.specs.Trees.{PlainTree, renumbered, size}
use Rattle.syntax_tree.specs.Nodes.{nodes_of}
use Rattle.syntax_tree.specs.Preferred.{Preferred}
use Rattle.chart_parser.specs.declared.part.Asked.{Asked}
use Rattle.chart_parser.specs.declared.part.Part.{Part}

-- the part, asked for as a child of the node with this number
abbrev pub below : ℕ → Part → Asked
below parent part = record { part = part; parent = Some parent }

-- the leaf of a token of this kind that is asked for
abbrev pub leaf_node : Asked → ℕ → Node
leaf_node a kind = record { sym = Kind kind; slot = a.part.slot; alt = 0; children = 0; parent = a.parent; first = a.part.first; end = a.part.end }

-- the node of a rule that is asked for, with this alternative and so many children
abbrev pub rule_node : Asked → ℕ → ℕ → Node
rule_node a alt children =
    record { sym = a.part.slot; slot = a.part.slot; alt = alt; children = children; parent = a.parent; first = a.part.first; end = a.part.end }

-- What is asked for derives its span.
abbrev pub AreDerived : NormalForm → List ℕ → List Asked → Type 0
AreDerived N kinds [] = ⊤
AreDerived N kinds (a ∷ later) = DerivesSpan N kinds a.part.slot a.part.first a.part.end × AreDerived N kinds later

-- The nodes, which are numbered from n on, are those of a preferred tree for each that is asked for, one after another.
abbrev pub Completes : NormalForm → List ℕ → ℕ → List Asked → List Node → Type 0
Completes N kinds n [] nodes = nodes ≡ []
Completes N kinds n (a ∷ later) nodes =
    (t : PlainTree) × (others : List Node) × Preferred N kinds a.part.slot a.part.first a.part.end t × (renumbered n t ≡ t)
    × (nodes ≡ nodes_of N a.part.slot a.parent a.part.first t ++ others) × Completes N kinds (n + size t) later others

-- These nodes are the first ones of what the root is asked for: with whatever completes
-- those that are still asked for, the next one first, they complete the root.
abbrev pub AreBegun : NormalForm → List ℕ → Asked → List Node → List Asked → Type 0
AreBegun N kinds root nodes later = (others : List Node) → Completes N kinds (length nodes) later others → Completes N kinds 0 (root ∷ []) (nodes ++ others)
