-- The laws of trees that the proofs of this crate use.
use Rattle.syntax_tree.specs.EditLaws.{LocalEditsAreValid, NodesHaveSlots, OtherNodesStay, SubtreesAreLeft, SubtreesChange, SubtreesFit}
use Rattle.syntax_tree.specs.LeftLaws.{LeavesInSpan, LeftIsPart, LeftIsReflexive}
use Rattle.syntax_tree.specs.NodeLaws.{NodesAreSubtrees, SubtreesHaveNodes, WholeTreesRise}

pub record TreeLaws : Type 0 where
  pub local_edits_are_valid : LocalEditsAreValid
  pub nodes_have_slots : NodesHaveSlots
  pub other_nodes_stay : OtherNodesStay
  pub subtrees_are_left : SubtreesAreLeft
  pub subtrees_change : SubtreesChange
  pub subtrees_fit : SubtreesFit
  pub leaves_in_span : LeavesInSpan
  pub left_is_part : LeftIsPart
  pub left_is_reflexive : LeftIsReflexive
  pub nodes_are_subtrees : NodesAreSubtrees
  pub subtrees_have_nodes : SubtreesHaveNodes
  pub whole_trees_rise : WholeTreesRise
