pub use Rattle.run_gated.specs as RunGated
pub use Rattle.reduce_core.specs as ReduceCore
pub use Rattle.reduce_trees_input.specs.Parsed
pub use Rattle.reduce_trees.specs as ReduceTrees
pub use Rattle.spell_shrink.specs as SpellShrink
pub mod Problem
pub mod Reducer
pub mod Read
pub mod Committed
pub mod Ends
pub mod Laws
pub mod TreeMode
