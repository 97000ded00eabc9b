-- What other crates' proofs cite of this crate's.
pub use Rattle.command_ends.proofs.CallLemmas.{all_some, read_then, read_then_made, read_then_none, read_then_some, some_more}
pub use Rattle.command_ends.proofs.FileLemmas.{read_not_over, not_both, not_longer, read_not_missing, longer_not_missing, same_seen}
