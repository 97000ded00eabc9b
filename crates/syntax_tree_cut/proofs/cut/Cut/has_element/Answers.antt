use Rattle.syntax_tree_cut.proofs.Questions.{element_seen}
use Rattle.syntax_tree_cut.proofs.cut.Cut.has_element.Goals as goal

pub returns-then-seen : goal.returns-then-seen
returns-then-seen c = λ u e. element_seen c.args.child c.args.fewest c.count_children-seen.result u (c.count_children-seen.ensures u e) c.if-seen.true
