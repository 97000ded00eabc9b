pub use Rattle.keep_guard.specs.Keep
pub use Rattle.reduce_core.specs as ReduceCore
pub use Rattle.reduce_trees_mode.specs as ReduceTreesMode
pub mod Texts
pub mod Laws
pub mod inner
