pub use Rattle.hdd_levels.specs.Levels
pub use Rattle.reduce_walk.specs as ReduceWalk
pub use Rattle.syntax_tree_cut.specs.Cuts
pub use Rattle.hdd_levels.specs.LevelForms
pub mod Allowed
pub mod Round
pub mod Followed
pub mod Laws
pub mod Deletions
pub mod Worked
pub mod LevelRounds
pub mod inner
