-- What other crates' proofs cite of this crate's.
pub use Rattle.descend_replace.proofs.Deciding.{decides}
pub use Rattle.descend_replace.proofs.Queue.{levels_are_children, roots_numbers}
pub use Rattle.descend_replace.proofs.Found.{below_found, cut_rises, left_node, children_are}
