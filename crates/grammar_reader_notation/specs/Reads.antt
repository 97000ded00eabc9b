-- What a reader of grammars answers.
use Rattle.std.specs.Prelude.{ℕ, ◌≡◌, List, [], ◌∷◌, ◌++◌, map, Result, Ok, Err}
use Rattle.std.specs.Str.{IsUtf8}
use Rattle.std.specs.Str.Lossy.{utf8_valid_len}
use Rattle.faults.specs.Memory.{ran_out}
use Rattle.grammar_tree.specs.Written.{WrittenGrammar}
use Rattle.grammar_tree.specs.GrammarView.{grammar_of}
use Rattle.grammar_tree.specs.declared.rule.Grammar.{Grammar}
use Rattle.grammar_reader_words.specs.Words.{words_of}
use Rattle.grammar_reader_words.specs.declared.word.Word.{Word}
use Rattle.grammar_reader_words.specs.declared.word.Placed.{Placed}
use Rattle.grammar_reader_notation.specs.Notation.{IsText, Begins}
use Rattle.grammar_reader_notation.specs.Naming.{IsNamed}
use Rattle.grammar_reader_notation.specs.declared.fault.ReadFault.{ReadFault}
use Rattle.grammar_reader_notation.specs.declared.fault.ReadFault.TheVariants as f

abbrev pub only_words : List Placed → List Word
only_words placed = map (λ p. p.word) placed

-- the bytes are a profile text, which spells the grammar
pub record IsProfile (bytes : List ℕ) (G : WrittenGrammar) : Type 0 where
  pub utf8 : IsUtf8 bytes
  pub text : IsText (only_words (words_of bytes)) G

-- The first word that can't follow decides: the words before it are the first words of some profile
-- text, and those up to it aren't. The fault is what it is called, and where it begins.
pub record IsFirstFault (bytes : List ℕ) (fault : ReadFault) : Type 0 where
  pub before : List Placed
  pub current : Placed
  pub after : List Placed
  pub cut : words_of bytes ≡ before ++ current ∷ after
  pub begun : Begins (only_words before)
  pub stuck : Begins (only_words (before ++ current ∷ [])) → ⊥
  pub named : IsNamed (only_words before) current fault

abbrev pub IsFaultOf : List ℕ → Result Grammar ReadFault → Type 0
IsFaultOf bytes (Ok g) = Unit {0}
IsFaultOf bytes (Err (f.NotUtf8 offset)) = (IsUtf8 bytes → ⊥) × (offset ≡ utf8_valid_len bytes)
IsFaultOf bytes (Err (f.Syntax offset)) = IsUtf8 bytes × IsFirstFault bytes (f.Syntax offset)
IsFaultOf bytes (Err (f.Unsupported what offset)) = IsUtf8 bytes × IsFirstFault bytes (f.Unsupported what offset)
IsFaultOf bytes (Err (f.NestedTooDeep offset)) = IsUtf8 bytes × IsFirstFault bytes (f.NestedTooDeep offset)
IsFaultOf bytes (Err (f.Memory _)) = Unit {0}

-- a profile text is read as its grammar, unless memory runs out
abbrev pub IsReadAs : WrittenGrammar → Result Grammar ReadFault → Type 0
IsReadAs G (Ok g) = grammar_of g ≡ G
IsReadAs G (Err fault) = fault ≡ f.Memory ran_out

-- A text has one first fault at most.
abbrev pub FaultsOnce : Type 0
FaultsOnce = (bytes : List ℕ) (fault other : ReadFault) → IsFirstFault bytes fault → IsFirstFault bytes other → fault ≡ other
