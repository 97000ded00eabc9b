pub use Rattle.command_problem.specs as CommandProblem
pub use Rattle.run_problem.specs as RunProblem
pub use Rattle.reduce_trees_input.specs as ReduceTreesInput
pub use Rattle.command_reduce_calls.specs as CommandReduceCalls
pub use Rattle.command_grammar.specs.Texts
pub use Rattle.command_grammar.specs.Grammar
pub mod Resume
pub mod Reduce
pub mod ReduceByStatus
pub mod inner
