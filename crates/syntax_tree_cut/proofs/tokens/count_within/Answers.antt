use Rattle.syntax_tree_cut.proofs.Splits.{count_is}
use Rattle.syntax_tree_cut.proofs.tokens.count_within.Goals as goal

pub returns : goal.returns
returns c =
    count_is c.args.tokens.now c.args.node.now.first c.args.node.now.end c.count_before-2.result c.count_before.result c.count_before-2.ensures
    c.count_before.ensures c.requires.span
