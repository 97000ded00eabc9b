-- Which well-formed grammar bytes spell, and which fault of theirs is the first.
use Rattle.std.specs.Prelude.{◌≡◌, ◌≢◌, ⊤, ℕ, List, Option, Some, Err}
use Rattle.faults.specs.Memory.{ran_out}
use Rattle.grammar_tree.specs.Checked.{IsChecked}
use Rattle.grammar_tree.specs.Faults.{start_of}
use Rattle.grammar_tree.specs.Written.{CheckedGrammar, WrittenGrammar}
use Rattle.grammar_reader_notation.specs.Reads.{IsFaultOf, IsProfile}
use Rattle.grammar_reader_notation.specs.declared.fault.ReadFault.TheVariants as read
use Rattle.grammar_check.specs.CheckFaults.{IsFirstInTable}
use Rattle.grammar_load.specs.declared.fault.GrammarFault.{GrammarFault}
use Rattle.grammar_load.specs.declared.fault.GrammarFault.TheVariants.{Read, Check, Memory}

-- The bytes spell this grammar, which is well-formed for its start, the wanted one, and has its kinds.
pub record Spells (bytes : List ℕ) (wanted : Option (List ℕ)) (it : CheckedGrammar) : Type 0 where
  pub text : IsProfile bytes it.grammar
  pub start : start_of it.grammar wanted ≡ Some it.start
  pub checked : IsChecked it

-- The bytes spell this grammar, and no other.
pub record SpellsOnly (bytes : List ℕ) (G : WrittenGrammar) : Type 0 where
  pub text : IsProfile bytes G
  pub only : (other : WrittenGrammar) → IsProfile bytes other → G ≡ other

-- The first fault of the bytes: that of the text, or else, of the one grammar that it spells, the first one in the table. Out of memory says nothing of them.
abbrev pub IsGrammarFault : List ℕ → Option (List ℕ) → GrammarFault → Type 0
IsGrammarFault bytes wanted (Read fault) = (fault ≢ read.Memory ran_out) × IsFaultOf bytes (Err fault)
IsGrammarFault bytes wanted (Check fault) = (G : WrittenGrammar) × SpellsOnly bytes G × IsFirstInTable G wanted fault
IsGrammarFault bytes wanted (Memory _) = ⊤
