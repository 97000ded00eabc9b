-- What other crates' proofs cite of this crate's.
pub use Rattle.grammar_check_nodes.proofs.Searching.{row_at, further}
