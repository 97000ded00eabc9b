pub use Rattle.normal_form.specs as NormalForm
pub use Rattle.reduce_rounds.specs.Trials
pub use Rattle.syntax_tree.specs as SyntaxTree
pub mod WalkState
pub mod Rounds
pub mod WorkedTrees
pub mod inner
