-- What other crates' proofs cite of this crate's.
pub use Rattle.syntax_tree.proofs.Within.{or_some, or_none, IsWithin, AreWithin, bounds, outside, all_outside, lacks_subtree}
pub use Rattle.syntax_tree.proofs.Within.{lacks_with, lack_with, none_lacks, found, found_among, within_from, rise_from}
pub use Rattle.syntax_tree.proofs.LeftTrees.{reflexive, transitive, part, selected_left}
pub use Rattle.syntax_tree.proofs.Exchanged.{change, are_left}
pub use Rattle.syntax_tree.proofs.InSlots.{root_found, root_with, have_slots, fit}
pub use Rattle.syntax_tree.proofs.SingleEdits.{numbered, edits_are_trees, local_edits, selections}
pub use Rattle.syntax_tree.proofs.NodeLists.{as_many, have_nodes, whole_rise}
pub use Rattle.syntax_tree.proofs.Finding.{deeper, is_found, is_in, find}
pub use Rattle.syntax_tree.proofs.LevelOrder.{levels}
pub use Rattle.syntax_tree.proofs.KeptLeaves.{nodes_left}
pub use Rattle.syntax_tree.proofs.OtherNodes.{other_nodes}
pub use Rattle.syntax_tree.proofs.TokenOrder.{tokens_follow}
