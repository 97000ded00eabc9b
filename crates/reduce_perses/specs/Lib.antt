pub use Rattle.syntax_tree.specs as SyntaxTree
pub use Rattle.node_queue.specs.Waiting
pub use Rattle.reduce_rounds.specs as ReduceRounds
pub use Rattle.descend_replace.specs.Compatible
pub use Rattle.descend_replace.specs.FitsIn
pub use Rattle.syntax_tree_cut.specs.Cuts
pub use Rattle.reduce_walk.specs.WalkState
pub use Rattle.reduce_walk.specs.Rounds
pub mod Queued
pub mod Visit
pub mod VisitEnd
pub mod Laws
pub mod Worked
pub mod VisitRounds
pub mod inner
