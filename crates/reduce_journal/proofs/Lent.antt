-- What other crates' proofs cite of this crate's.
pub use Rattle.reduce_journal.proofs.Journals.{count_after, count_from_none, not_both, one_event_more, one_journal}
