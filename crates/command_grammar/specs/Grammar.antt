-- The grammar that a command line names: that it was read, and why it wasn't.
use Rattle.std.specs.Prelude.{◌≡◌, ℕ, List, [], ◌∷◌, ◌++◌, Option, Some, option_map, string_bytes}
use Rattle.std.specs.Str.{chars}
use Rattle.edge_io.specs.Files.{IsLonger}
use Rattle.grammar_tree.specs.Faults.{IsWellFormed, start_of}
use Rattle.grammar_tree.specs.Written.{CheckedGrammar, WrittenGrammar}
use Rattle.command_ends.specs.declared.status.Refusal.{Refusal}
use Rattle.command_ends.specs.declared.status.Refusal.TheVariants.{Memory, CannotRead, Grammar, TooLong}
use Rattle.command_ends.specs.Status.{fault_line}
use Rattle.command_words.specs.Commands.{GrammarSource}
use Rattle.command_ends.specs.World.{CallFailed, IsQuiet, SeenCalls, SeenFiles, SomeRead, UnreadAfter, WereRead, grammar_limit}
use Rattle.command_grammar.specs.Texts.{AreSpelled, AreWritten, GrammarTexts, GrammarWasRead, HaveFault, IsGrammarFile, grammar_paths, path_of, paths_before}

-- the characters of the start rule's name, where one is given
abbrev pub start_name : GrammarSource → Option (List ℕ)
start_name grammar = option_map chars grammar.start

-- The texts spell a grammar that is well-formed for the start rule that is named, or else its first parser rule.
pub record IsGrammarText (named : GrammarSource) (texts : GrammarTexts) : Type 0 where
  pub grammar : WrittenGrammar
  pub start : ℕ
  pub spelled : AreWritten texts grammar
  pub first : start_of grammar (start_name named) ≡ Some start
  pub well_formed : IsWellFormed grammar start

-- The texts spell no such grammar, and the text is that of their first fault.
pub record IsFaultIn (named : GrammarSource) (texts : GrammarTexts) (text : List ℕ) : Type 0 where
  pub first : HaveFault texts (start_name named) text
  pub refused : ¬ IsGrammarText named texts

-- The texts spell this grammar, well-formed for that rule, and no other such grammar.
pub record SpellsTheGrammar (named : GrammarSource) (texts : GrammarTexts) (grammar : CheckedGrammar) : Type 0 where
  pub spelled : AreSpelled texts (start_name named) grammar
  pub only : (other : CheckedGrammar) → AreSpelled texts (start_name named) other → grammar ≡ other

-- the files were read whole, each within its limit, and their texts spell the grammar
abbrev pub GrammarRead : GrammarSource → SeenFiles → CheckedGrammar → Type 0
GrammarRead named files grammar = GrammarWasRead named files (λ texts. SpellsTheGrammar named texts grammar)

-- why the files give no grammar: a call of them failed, one is longer than its limit, or they were read and have a fault, whose line this is; or out of memory
abbrev pub GrammarFails : GrammarSource → SeenFiles → SeenFiles → Refusal → Type 0
GrammarFails named files files' (Memory _) = IsQuiet files files'
GrammarFails named files files' (CannotRead file) = IsGrammarFile named file files × CallFailed files files'
GrammarFails named files files' (TooLong file) =
    IsGrammarFile named file files × IsLonger grammar_limit (files.shown (path_of named file)) × IsQuiet files files'
GrammarFails named files files' (Grammar line) =
    (text : List ℕ) × GrammarWasRead named files (λ texts. IsFaultIn named texts text) × (string_bytes line ≡ fault_line text) × IsQuiet files files'
GrammarFails named files files' _ = ⊥

-- which of them were read then: up to the one that the refusal names; both, where they have a fault; or some, where memory ran out
abbrev pub GrammarCalls : GrammarSource → SeenCalls → SeenCalls → Refusal → Type 0
GrammarCalls named old new (Memory _) = SomeRead (grammar_paths named) old new
GrammarCalls named old new (CannotRead file) = UnreadAfter (paths_before named file) (path_of named file) old new
GrammarCalls named old new (TooLong file) = WereRead (paths_before named file ++ path_of named file ∷ []) old new
GrammarCalls named old new (Grammar line) = WereRead (grammar_paths named) old new
GrammarCalls named old new _ = ⊥
