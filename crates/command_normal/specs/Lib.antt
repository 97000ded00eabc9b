pub use Rattle.command_words.specs.Commands
pub use Rattle.normal_form.specs as NormalForm
pub use Rattle.normal_form_print.specs.Print
pub use Rattle.command_ends.specs as CommandEnds
pub use Rattle.command_grammar.specs.Texts
pub use Rattle.command_grammar.specs.Grammar
pub mod Normal
pub mod NormalByStatus
pub mod inner
