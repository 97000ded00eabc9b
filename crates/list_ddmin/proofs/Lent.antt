-- What other crates' proofs cite of this crate's.
pub use Rattle.list_ddmin.proofs.Minimal.{kept_count-all}
pub use Rattle.list_ddmin.proofs.Follows.{IsSound-start, IsSound-after, rest_of-after, follows_list_step, begins_list_step, stops_at_end}
pub use Rattle.list_ddmin.proofs.Left.{goes_on}
pub use Rattle.list_ddmin.proofs.Counts.{length-kept_of}
pub use Rattle.list_ddmin.proofs.Lengths.{asks_as_kept, keeps_length, starts_with_all}
pub use Rattle.list_ddmin.proofs.AskedLemmas.{keeps_last_yes, keeps_all_at_first, deletions_asked}
pub use Rattle.list_ddmin.proofs.KeepsLess.{only-length, only-fewer, asks_fewer, asks_for_nothing_first}
