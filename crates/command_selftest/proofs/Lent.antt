-- What other crates' proofs cite of this crate's.
pub use Rattle.command_selftest.proofs.SelftestLemmas.{selftest_ends}
