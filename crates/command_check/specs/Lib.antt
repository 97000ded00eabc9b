pub use Rattle.cert_check.specs as CertCheck
pub use Rattle.command_problem.specs as CommandProblem
pub use Rattle.command_words.specs.Commands
pub mod Check
pub mod inner
