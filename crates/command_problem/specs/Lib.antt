pub use Rattle.run_problem.specs as RunProblem
pub use Rattle.reduce_trees_input.specs as ReduceTreesInput
pub use Rattle.command_grammar.specs as CommandGrammar
pub mod Problem
pub mod Read
