pub use Rattle.run_problem.specs as RunProblem
pub use Rattle.keep_guard.specs.Keep
pub mod Setup
pub mod Findings
pub mod WhyText
pub mod Laws
pub mod inner
