pub use Rattle.normal_form.specs.Form
pub use Rattle.normal_form.specs.NormalDerives
pub use Rattle.chart_parser_ends.specs.Positions
pub mod Following
pub mod Prefixes
pub mod inner
