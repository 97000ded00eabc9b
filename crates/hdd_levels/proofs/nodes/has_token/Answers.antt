use Rattle.syntax_tree.specs.Numbered.{subtree}
use Rattle.syntax_tree_cut.specs.Cuts.{cut_tree}
use Rattle.hdd_levels.proofs.FoundNodes.{has_leaf_is}
use Rattle.hdd_levels.proofs.nodes.has_token.Goals as goal

pub returns : goal.returns
returns c = has_leaf_is (subtree c.args.node (cut_tree c.args.tree.now c.args.cut.now)) c.weight.result c.weight.ensures
