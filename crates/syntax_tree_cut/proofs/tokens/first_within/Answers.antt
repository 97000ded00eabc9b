use Rattle.syntax_tree_cut.proofs.Splits.{first_is}
use Rattle.syntax_tree_cut.proofs.tokens.first_within.Goals as goal

pub bounds-tokens-count_before : goal.bounds-tokens-count_before
bounds-tokens-count_before c =
    (first_is c.args.tokens.now c.args.node.now.first c.args.node.now.end c.count_before.result c.requires.rising c.count_before.ensures c.requires.some).0

pub returns : goal.returns
returns c =
    (first_is c.args.tokens.now c.args.node.now.first c.args.node.now.end c.count_before.result c.requires.rising c.count_before.ensures c.requires.some).1
