use Rattle.std.proofs.Common.{sym, ◌∙◌}
use Rattle.syntax_tree_cut.proofs.Questions.{empty_is}
use Rattle.syntax_tree_cut.proofs.cut.Cut.can_empty.Goals as goal

pub returns : goal.returns
returns c =
    empty_is c.args.tree.now c.tree_laws.ensures c.nodes-nodes.ensures.whole c.args.self.now c.requires c.args.node c.count_children.result
    (sym c.shape_if_left.ensures ∙ c.is_optional.ensures.0 c.if-not-is_optional.false) c.count_children.ensures
