use Rattle.std.proofs.Common.{ℕ, ◌-◌, ◌<◌, Option, length}
use Rattle.syntax_tree_cut.specs.Cuts.{IsOccupant}
use Rattle.syntax_tree_cut.proofs.occupant.occupant.Given as goal

abbrev pub invariant-position : goal.invariant-position
invariant-position l = record { within : l.node < length l.marks; same : (o : Option ℕ) → IsOccupant l.marks l.node o → IsOccupant l.marks l.initial.node o }

abbrev pub decreases-position : goal.decreases-position
decreases-position l = length l.marks - l.node
