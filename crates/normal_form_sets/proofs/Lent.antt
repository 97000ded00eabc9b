-- What other crates' proofs cite of this crate's.
pub use Rattle.normal_form_sets.proofs.Lacking.{item_some, none_part, lacks_none, all_part, lacks_all, and_in, kept_part, part_rises}
pub use Rattle.normal_form_sets.proofs.SetSteps.{sets_step, sets_end, with_all}
