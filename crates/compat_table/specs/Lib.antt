pub use Rattle.normal_form.specs.Form
pub use Rattle.normal_form.specs.NormalDerives
pub mod Fits
pub mod Laws
pub mod Nullable
pub mod inner
