-- What other crates' proofs cite of this crate's.
pub use Rattle.reduce_trees_mode.proofs.Leaves.{leaves_length}
pub use Rattle.reduce_trees_mode.proofs.Listing.{weight_whole, are_kept, language_by_kinds}
