use Rattle.std.proofs.Common.{sym, ◌∙◌}
use Rattle.syntax_tree_cut.proofs.Questions.{replace_is, through}
use Rattle.syntax_tree_cut.proofs.cut.Cut.can_replace.Goals as goal

pub returns : goal.returns
returns c =
    through c.has_fitting.ensures (replace_is c.args.tree.now c.tree_laws.ensures c.nodes-nodes.ensures.whole c.args.self.now c.requires.of c.args.node
    c.args.by (sym c.shape_if_left.ensures ∙ c.is_regular.ensures.0 c.if-not-is_regular.false))
