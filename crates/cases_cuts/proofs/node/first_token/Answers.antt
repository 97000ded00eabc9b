use Rattle.syntax_tree.specs.Numbered.{subtree}
use Rattle.syntax_tree_cut.specs.Cuts.{cut_tree}
use Rattle.cases_cuts.proofs.Leaves.{first_of_none}
use Rattle.cases_cuts.proofs.node.first_token.Goals as goal

pub returns-then-weight-eq0 : goal.returns-then-weight-eq0
returns-then-weight-eq0 c =
    first_of_none c.weights_count_leaves.ensures
    (subtree c.args.node (cut_tree c.args.tree.now c.args.cut.now)) c.weight.result c.weight.ensures c.if-weight-eq0.true
