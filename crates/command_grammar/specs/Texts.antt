-- The texts of a grammar that a command line names, one or two, what they spell, and the files that have them.
use Rattle.std.specs.Prelude.{◌≢◌, ◌≡◌, ℕ, List, [], ◌∷◌, Option, Some, None, IsSome, unwrap_or}
use Rattle.std.specs.Option.{option_to_list}
use Rattle.faults.specs.Memory.{ran_out}
use Rattle.edge_io.specs.Files.{FileContent}
use Rattle.grammar_tree.specs.Written.{CheckedGrammar, WrittenGrammar}
use Rattle.grammar_load.specs.Answer.{IsGrammarFault, Spells}
use Rattle.grammar_load.specs.Message.{grammar_fault_text}
use Rattle.grammar_load.specs.Reads.{IsProfile}
use Rattle.grammar_load.specs.declared.fault.GrammarFault.{GrammarFault}
use Rattle.grammar_load.specs.declared.fault.GrammarFault.TheVariants as grammar_fault
use Rattle.grammar_load.specs.PairAnswer.{IsPairGrammarFault, SpellsPair}
use Rattle.grammar_load.specs.PairMessage.{pair_grammar_fault_text}
use Rattle.grammar_load.specs.declared.pair_fault.PairGrammarFault.{PairGrammarFault}
use Rattle.grammar_load.specs.declared.pair_fault.PairGrammarFault.TheVariants as pair_fault
use Rattle.grammar_pair.specs.Joined.{IsJoined}
use Rattle.command_ends.specs.declared.status.NamedFile.{NamedFile}
use Rattle.command_ends.specs.declared.status.NamedFile.TheVariants as read
use Rattle.command_ends.specs.World.{IsShownWithin, SeenFiles, WasRead, grammar_limit}
use Rattle.command_words.specs.Commands.{GrammarSource}

-- the text of one grammar; or that of a lexer grammar, and that of its parser grammar
pub data GrammarTexts : Type 0 where
  one : List ℕ → GrammarTexts
  pair : List ℕ → List ℕ → GrammarTexts

-- The texts spell this grammar as it is written.
abbrev pub AreWritten : GrammarTexts → WrittenGrammar → Type 0
AreWritten (GrammarTexts.one text) G = IsProfile text G
AreWritten (GrammarTexts.pair lexer parser) G = IsJoined lexer parser G

-- The same of a grammar that is well-formed for its start, the wanted one, and has its kinds.
abbrev pub AreSpelled : GrammarTexts → Option (List ℕ) → CheckedGrammar → Type 0
AreSpelled (GrammarTexts.one text) wanted it = Spells text wanted it
AreSpelled (GrammarTexts.pair lexer parser) wanted it = SpellsPair lexer parser wanted it

-- The text is that of their first fault, which isn't out of memory.
abbrev pub HaveFault : GrammarTexts → Option (List ℕ) → List ℕ → Type 0
HaveFault (GrammarTexts.one bytes) wanted text =
    (fault : GrammarFault) × (fault ≢ grammar_fault.Memory ran_out) × IsGrammarFault bytes wanted fault × (text ≡ grammar_fault_text fault)
HaveFault (GrammarTexts.pair lexer parser) wanted text =
    (fault : PairGrammarFault) × (fault ≢ pair_fault.Memory ran_out) × IsPairGrammarFault lexer parser wanted fault × (text ≡ pair_grammar_fault_text fault)

-- the files of these names were read whole, each within its limit, and the fact holds of their texts
abbrev pub TextsRead : List ℕ → Option (List ℕ) → (List ℕ → Option FileContent) → (GrammarTexts → Type 0) → Type 0
TextsRead path None shown P = WasRead grammar_limit (shown path) (λ text. P (GrammarTexts.one text))
TextsRead path (Some lexer) shown P =
    WasRead grammar_limit (shown path) (λ text. WasRead grammar_limit (shown lexer) (λ before. P (GrammarTexts.pair before text)))

-- the same of the files of a grammar
abbrev pub GrammarWasRead : GrammarSource → SeenFiles → (GrammarTexts → Type 0) → Type 0
GrammarWasRead named files P = TextsRead named.path named.lexer files.shown P

-- the content of the files of these names is visible, they are there, each within its limit, and the fact holds of their texts
abbrev pub TextsShown : List ℕ → Option (List ℕ) → (List ℕ → Option FileContent) → (GrammarTexts → Type 0) → Type 0
TextsShown path None shown P = IsShownWithin grammar_limit (shown path) (λ text. P (GrammarTexts.one text))
TextsShown path (Some lexer) shown P =
    IsShownWithin grammar_limit (shown path) (λ text. IsShownWithin grammar_limit (shown lexer) (λ before. P (GrammarTexts.pair before text)))

abbrev pub GrammarIsShown : GrammarSource → SeenFiles → (GrammarTexts → Type 0) → Type 0
GrammarIsShown named files P = TextsShown named.path named.lexer files.shown P

-- the content of the files of these names is visible
abbrev pub TextsVisible : List ℕ → Option (List ℕ) → (List ℕ → Option FileContent) → Type 0
TextsVisible path None shown = IsSome (shown path)
TextsVisible path (Some lexer) shown = IsSome (shown path) × IsSome (shown lexer)

abbrev pub GrammarIsVisible : GrammarSource → SeenFiles → Type 0
GrammarIsVisible named files = TextsVisible named.path named.lexer files.shown

-- the file is one of the grammar's, and is read: that of a lexer once the other was
abbrev pub IsGrammarFile : GrammarSource → NamedFile → SeenFiles → Type 0
IsGrammarFile named read.Input files = ⊥
IsGrammarFile named read.Grammar files = Unit {0}
IsGrammarFile named read.Lexer files = IsSome named.lexer × WasRead grammar_limit (files.shown named.path) (λ text. Unit {0})
IsGrammarFile named read.Result files = ⊥
IsGrammarFile named read.Journal files = ⊥

-- the paths of its files, in the order in which they are read, and those of the files that are read before this one
abbrev pub grammar_paths : GrammarSource → List (List ℕ)
grammar_paths named = named.path ∷ option_to_list named.lexer

abbrev pub paths_before : GrammarSource → NamedFile → List (List ℕ)
paths_before named read.Input = []
paths_before named read.Grammar = []
paths_before named read.Lexer = named.path ∷ []
paths_before named read.Result = []
paths_before named read.Journal = []

-- the path of such a file; of a lexer that isn't named none is asked for
abbrev pub path_of : GrammarSource → NamedFile → List ℕ
path_of named read.Input = []
path_of named read.Grammar = named.path
path_of named read.Lexer = unwrap_or named.lexer []
path_of named read.Result = []
path_of named read.Journal = []
