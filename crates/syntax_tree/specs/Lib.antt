pub use Rattle.normal_form.specs as NormalForm
pub use Rattle.compat_table.specs as CompatTable
pub use Rattle.normal_form.specs.Spans
pub mod Trees
pub mod Numbered
pub mod Valid
pub mod Preferred
pub mod Edits
pub mod Left
pub mod Levels
pub mod Nodes
pub mod Laws
pub mod NodeLaws
pub mod EditLaws
pub mod LeftLaws
pub mod inner
