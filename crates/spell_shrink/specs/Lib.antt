pub use Rattle.reduce_trees.specs as ReduceTrees
pub mod Words
pub mod KindWords
pub mod Respelling
pub mod Texts
pub mod Respelled
pub mod SpellMode
pub mod SpellRecursion
pub mod Phases
pub mod Laws
pub mod inner
