pub use Rattle.reduce_step.specs.Limits
pub use Rattle.reduce_perses.specs as ReducePerses
pub use Rattle.reduce_trees_mode.specs as ReduceTreesMode
pub use Rattle.reduce_walk.specs.Rounds as WalkRounds
pub use Rattle.reduce_perses.specs.VisitRounds
pub use Rattle.reduce_hdd.specs.LevelRounds
pub use Rattle.reduce_hdd.specs.Followed as LevelsEnd
pub mod TreeRounds
pub mod WalkMode
pub mod PersesMode
pub mod HddMode
pub mod Fields
pub mod Laws
pub mod Ends
pub mod inner
