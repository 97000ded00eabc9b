pub use Rattle.faults.specs.Memory
pub use Rattle.command_words.specs.Commands
pub use Rattle.grammar_tree.specs as GrammarTree
pub use Rattle.grammar_load.specs as GrammarLoad
pub use Rattle.command_ends.specs as CommandEnds
pub mod Texts
pub mod Grammar
pub mod inner
