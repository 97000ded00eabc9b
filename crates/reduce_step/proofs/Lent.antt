-- What other crates' proofs cite of this crate's.
pub use Rattle.reduce_step.proofs.PlanLemmas.{asked_may, after_may, follow_after, follow_ended, stays}
pub use Rattle.reduce_step.proofs.AheadLemmas.{asked_at_no-step, ahead_may, ahead-more, ahead-full, ahead-ended}
