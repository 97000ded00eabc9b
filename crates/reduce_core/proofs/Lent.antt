-- What other crates' proofs cite of this crate's.
pub use Rattle.reduce_core.proofs.LinesLemmas.{text-numbered_lines}
pub use Rattle.reduce_core.proofs.LineLaws.{line_lawful}
