use Rattle.std.proofs.Common.{◌≡◌, ◌++◌, ◌≤◌, flat_map, length, take}
use Rattle.plain_reductions.specs.Nodes.{children_of}
use Rattle.plain_reductions.proofs.nodes.below.Given as goal

abbrev pub invariant-loop-index : goal.invariant-loop-index
invariant-loop-index l = (l.all.items ≡ l.tops ++ flat_map (children_of l.tree) (take l.index l.all.items)) × (l.index ≤ length l.all.items)
