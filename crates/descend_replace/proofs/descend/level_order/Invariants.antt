use Rattle.std.proofs.Common.{◌≡◌, ◌-◌, Some, length}
use Rattle.std.specs.Option.{option_map_or}
use Rattle.syntax_tree.specs.Trees.{PlainTree}
use Rattle.syntax_tree.specs.Numbered.{subtree}
use Rattle.syntax_tree.specs.Levels.{below_in_level_order}
use Rattle.syntax_tree_cut.specs.Cuts.{cut_tree}
use Rattle.descend_replace.proofs.Queue.{IsQueue}
use Rattle.descend_replace.proofs.descend.level_order.Given as goal

abbrev pub invariant-loop-next : goal.invariant-loop-next
invariant-loop-next l = (v : PlainTree) → subtree l.fn.node (cut_tree l.fn.tree l.fn.cut) ≡ Some v → IsQueue v l.next l.found.items

abbrev pub decreases-loop-next : goal.decreases-loop-next
decreases-loop-next l = option_map_or (λ (v : PlainTree). length (below_in_level_order v)) (subtree l.fn.node (cut_tree l.fn.tree l.fn.cut)) 0 - l.next
