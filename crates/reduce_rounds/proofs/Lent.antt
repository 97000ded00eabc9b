-- What other crates' proofs cite of this crate's.
pub use Rattle.reduce_rounds.proofs.Continued.{by_test, next_round, tried_in, rounds_in, all_rounds, reduction_in, reduction-in}
pub use Rattle.reduce_rounds.proofs.Fuel.{same_without_yes, smaller_after_yes, remaining-kept, goes_by_its_rounds}
pub use Rattle.reduce_rounds.proofs.Refusals.{rounds_not_refused, start_not_refused}
pub use Rattle.reduce_rounds.proofs.Recursions.{all_rounds_same, recursions_reduce_alike}
pub use Rattle.reduce_rounds.proofs.Following.{follows_reduction, refuses_at_no}
pub use Rattle.reduce_rounds.proofs.Ends.{ends_minimal}
pub use Rattle.reduce_rounds.proofs.Candidates.{asks_candidates}
pub use Rattle.reduce_rounds.proofs.Agreement.{agreeing_maps}
pub use Rattle.reduce_rounds.proofs.LookingAhead.{WereAskedAtNo, one_more}
pub use Rattle.reduce_rounds.proofs.GoesOn.{by_asked, fewer_left, at_end, at_question}
pub use Rattle.reduce_rounds.proofs.Steps.{by_steps, kept_at_yes, kept_at_no, selection-asked, selection-after, remainder-after, selection-start}
pub use Rattle.reduce_rounds.proofs.Steps.{remainder-start}
pub use Rattle.reduce_rounds.proofs.Tried.{tries_selections, becomes_smaller, same_by_keep_lists}
pub use Rattle.reduce_rounds.proofs.AtNo.{tries_deletions}
pub use Rattle.reduce_rounds.proofs.ListEnds.{ends_as_list_step}
pub use Rattle.reduce_rounds.proofs.ListFollows.{list_follows}
