-- Whether the text has ended.
use Rattle.std.specs.Prelude.{◌≡◌, Result, Ok, Err}
use Rattle.grammar_tree.specs.Written.{WrittenGrammar}
use Rattle.grammar_tree.specs.GrammarView.{grammar_of}
use Rattle.grammar_tree.specs.declared.rule.Grammar.{Grammar}
use Rattle.grammar_reader_machine.specs.declared.state.State.{State}
use Rattle.grammar_reader_machine.specs.Machine as m
use Rattle.grammar_reader_machine.specs.View.{state_of}

abbrev pub IsEnded : m.State → Result Grammar State → Type 0
IsEnded s (Ok g) = s ≡ m.AtEnd (grammar_of g)
IsEnded s (Err t) = (state_of t ≡ s) × ((G : WrittenGrammar) → s ≡ m.AtEnd G → ⊥)
