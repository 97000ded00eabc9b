-- What other crates' proofs cite of this crate's.
pub use Rattle.normal_form.proofs.Lists.{Contains-here}
pub use Rattle.normal_form.proofs.Bounds.{few_sets, number_within, few_rules}
pub use Rattle.normal_form.proofs.DeriveForms.{by_form}
pub use Rattle.normal_form.proofs.Elements.{elements_are_not_empty}
pub use Rattle.normal_form.proofs.Cuts.{between_append, cut, none_between, between_one}
pub use Rattle.normal_form.proofs.Derived.{derived}
pub use Rattle.normal_form.proofs.Joined.{joined}
pub use Rattle.normal_form.proofs.SpansByForm.{by_form as spans_by_form}
pub use Rattle.normal_form.proofs.SpanElements.{elements_move_on}
