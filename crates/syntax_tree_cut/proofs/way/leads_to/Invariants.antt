use Rattle.std.proofs.Common.{◌-◌, length}
use Rattle.std.specs.Option.{option_and_then}
use Rattle.syntax_tree.specs.Numbered.{subtree}
use Rattle.syntax_tree.specs.Nodes.{whole}
use Rattle.syntax_tree_cut.specs.Cuts.{left_at}
use Rattle.syntax_tree_cut.specs.inner.Ways.{IsAhead}
use Rattle.syntax_tree_cut.proofs.way.leads_to.Given as goal

abbrev pub invariant-way : goal.invariant-way
invariant-way l = IsAhead l.fn.tree l.fn.marks l.fn.node (option_and_then (subtree l.fn.node) (left_at l.fn.marks l.fn.from (whole l.fn.tree))) l.position

abbrev pub decreases-way : goal.decreases-way
decreases-way l = length l.fn.tree.nodes - l.position
