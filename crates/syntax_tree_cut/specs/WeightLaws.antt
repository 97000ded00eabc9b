-- What follows of weights, for the proofs of other crates.
use Rattle.std.specs.Prelude.{◌≡◌, length}
use Rattle.syntax_tree.specs.Trees.{PlainTree, leaves, weight}

-- A tree has as many leaves as its weight says.
abbrev pub WeightsCountLeaves : Type 0
WeightsCountLeaves = (t : PlainTree) → length (leaves t) ≡ weight t
