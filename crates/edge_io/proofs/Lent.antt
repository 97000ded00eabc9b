-- What other crates' proofs cite of this crate's.
pub use Rattle.edge_io.proofs.CallLemmas.{made_then, none_made}
