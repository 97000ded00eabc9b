-- What follows from what a fault of bytes is.
use Rattle.std.specs.Prelude.{◌≡◌, ◌≢◌, ℕ, List, Option}
use Rattle.faults.specs.Memory.{ran_out}
use Rattle.grammar_load.specs.Answer.{IsGrammarFault, Spells}
use Rattle.grammar_load.specs.declared.fault.GrammarFault.{GrammarFault}
use Rattle.grammar_load.specs.declared.fault.GrammarFault.TheVariants.{Memory}
use Rattle.grammar_tree.specs.Written.{CheckedGrammar}

-- Bytes have one fault at most, other than out of memory; and with one they spell no well-formed grammar.
pub record HasOneFault (bytes : List ℕ) (wanted : Option (List ℕ)) : Type 0 where
  pub once : (one other : GrammarFault) → one ≢ Memory ran_out → other ≢ Memory ran_out → IsGrammarFault bytes wanted one → IsGrammarFault bytes wanted other
      → one ≡ other
  pub refused : (fault : GrammarFault) → fault ≢ Memory ran_out → IsGrammarFault bytes wanted fault → (it : CheckedGrammar) → ¬ Spells bytes wanted it

abbrev pub GrammarFaultOnce : Type 0
GrammarFaultOnce = (bytes : List ℕ) (wanted : Option (List ℕ)) → HasOneFault bytes wanted
