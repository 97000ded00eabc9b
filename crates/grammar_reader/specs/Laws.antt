-- What holds of the machine over lists of words.
use Rattle.std.specs.Prelude.{◌≡◌, List, [], ◌∷◌, ◌++◌, Some, None}
use Rattle.grammar_tree.specs.Written.{WrittenGrammar}
use Rattle.grammar_reader_words.specs.declared.word.Placed.{Placed}
use Rattle.grammar_reader_words.specs.declared.word.Word.{Word}
use Rattle.grammar_reader_words.specs.declared.word.Word.TheVariants as w
use Rattle.grammar_reader_notation.specs.Notation.{Begins, IsText}
use Rattle.grammar_reader_notation.specs.Naming.{IsNamed}
use Rattle.grammar_reader_machine.specs.Machine.{State, AtStart, AtEnd, step}
use Rattle.grammar_reader.specs.Rows.{fault_at}
use Rattle.grammar_reader.specs.WordByWord.{run}

-- Words that are read to the end of a text are a text, which spells the grammar.
abbrev pub TextsAreRead : Type 0
TextsAreRead = (words : List Word) (G : WrittenGrammar) → run 64 AtStart words ≡ Some (AtEnd G) → IsText words G

-- At the end of a text the machine has the grammar that it spells.
abbrev pub TextsEnd : Type 0
TextsEnd =
    (before : List Word) (s : State) (G : WrittenGrammar) → run 64 AtStart before ≡ Some s → IsText (before ++ w.End ∷ []) G → step 64 s w.End ≡ Some (AtEnd G)

-- Words after which the machine goes on begin a text.
abbrev pub GoesOnInTexts : Type 0
GoesOnInTexts = (words : List Word) (s : State) → run 64 AtStart words ≡ Some s → Begins words

-- Words with which it stops begin none.
abbrev pub StopsOutside : Type 0
StopsOutside = (words : List Word) → run 64 AtStart words ≡ None → ¬ Begins words

-- A word that can't follow is called what the notation calls it.
abbrev pub FaultsAreNamed : Type 0
FaultsAreNamed =
    (before : List Word) (s : State) (current : Placed) → run 64 AtStart before ≡ Some s → step 64 s current.word ≡ None
    → IsNamed before current (fault_at s current.word current.offset)
