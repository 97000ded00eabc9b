pub use Rattle.command_words.specs.Commands
pub use Rattle.case_reduction.specs.Summary
pub use Rattle.command_ends.specs.World
pub mod Selftest
pub mod inner
