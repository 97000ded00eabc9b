-- What other crates' proofs cite of this crate's.
pub use Rattle.syntax_tree_cut.proofs.Rising.{when_equal, when_not, Rises, RiseAll, number_within, bounds_rise, rises_from, rises_wider, rise_wider}
pub use Rattle.syntax_tree_cut.proofs.Rising.{subtree_own, subtree_below, subtree_within, found_within, found_among_within, not_found}
pub use Rattle.syntax_tree_cut.proofs.LeftTrees.{leaf_own, node_own, left_there, own_left, left_below}
pub use Rattle.syntax_tree_cut.proofs.Deletions.{child_within, leaves_count}
pub use Rattle.syntax_tree_cut.proofs.CutEdits.{in_found, in_some_found, deeper_found, some_is}
pub use Rattle.syntax_tree_cut.proofs.CutFacts.{some_of, index_is}
pub use Rattle.syntax_tree_cut.proofs.WithoutNodes.{LosesLeaves, number_without, first_out, first_kept, is_the_one, is_not_the_one, nothing_out, without_both}
pub use Rattle.syntax_tree_cut.proofs.WithoutNodes.{NoneFrom, one_outside, without_others, without_others_all, without_outside, without_rises, without_left}
pub use Rattle.syntax_tree_cut.proofs.WithoutNodes.{loses_leaves, later_stays}
