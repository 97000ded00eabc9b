-- What other crates' proofs cite of this crate's.
pub use Rattle.ordered_commit.proofs.Runs.{records_more, records_same, asked_more, asked_same, asked_recalled, replay_record, replay_commit, commits_record}
pub use Rattle.ordered_commit.proofs.Runs.{commits_commit, kept_found, extends_at, numbered, none_recalled}
pub use Rattle.ordered_commit.proofs.Leads.{leads_on}
pub use Rattle.ordered_commit.proofs.SeatParts.{workers_apart}
pub use Rattle.ordered_commit.proofs.SeatLemmas.{all_agree, new_length, range_more, new_numbered, new_free, new_are_free, new_counted}
pub use Rattle.ordered_commit.proofs.TableFacts.{find_passes, first_absent}
pub use Rattle.ordered_commit.proofs.JournalLemmas.{has_more}
pub use Rattle.ordered_commit.proofs.TakeLemmas.{nothing_committed, next_free}
pub use Rattle.ordered_commit.proofs.CommitLemmas.{few_records}
