pub use Rattle.normal_form.specs.Form
pub use Rattle.normal_form.specs.NormalDerives
pub use Rattle.normal_form.specs.Spans
pub mod Positions
pub mod Input
pub mod inner
