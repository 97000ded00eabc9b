use Rattle.std.proofs.Common.{sym, ap, ◌∙◌}
use Rattle.syntax_tree_cut.specs.inner.Shapes.{fewest_of}
use Rattle.syntax_tree_cut.proofs.Questions.{delete_is}
use Rattle.syntax_tree_cut.proofs.cut.Cut.can_delete.Goals as goal

pub returns-in-Some : goal.returns-in-Some
returns-in-Some c =
    delete_is c.args.tree.now c.tree_laws.ensures c.nodes-nodes.ensures.whole c.args.self.now c.requires c.args.list c.args.element c.in-Some.fewest
    c.has_element.result
    (sym (ap fewest_of c.shape_if_left.ensures) ∙ sym c.fewest_elements.ensures ∙ c.in-Some.is) c.has_element.ensures
