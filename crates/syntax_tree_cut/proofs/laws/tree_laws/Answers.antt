use Rattle.syntax_tree_cut.proofs.laws.tree_laws.Goals as goal

pub returns : goal.returns
returns c = record {
  local_edits_are_valid = c.local_edits_are_valid.ensures;
  nodes_have_slots = c.nodes_have_slots.ensures;
  other_nodes_stay = c.other_nodes_stay.ensures;
  subtrees_are_left = c.subtrees_are_left.ensures;
  subtrees_change = c.subtrees_change.ensures;
  subtrees_fit = c.subtrees_fit.ensures;
  leaves_in_span = c.leaves_in_span.ensures;
  left_is_part = c.left_is_part.ensures;
  left_is_reflexive = c.left_is_reflexive.ensures;
  nodes_are_subtrees = c.nodes_are_subtrees.ensures;
  subtrees_have_nodes = c.subtrees_have_nodes.ensures;
  whole_trees_rise = c.whole_trees_rise.ensures;
}
