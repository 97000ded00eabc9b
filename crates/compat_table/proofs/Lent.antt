-- What other crates' proofs cite of this crate's.
pub use Rattle.compat_table.proofs.Fitting.{derive_more}
pub use Rattle.compat_table.proofs.Nulling.{and_both, or_one, from_first, from_second, numbered_derives, one_passes, is_exact, all_exact}
pub use Rattle.compat_table.proofs.Edges.{Passes, pass_on}
