-- What other crates' proofs cite of this crate's.
pub use Rattle.case_maker.proofs.Letters.{holds}
