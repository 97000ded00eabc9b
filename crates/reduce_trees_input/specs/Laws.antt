-- What follows from what an input and a fault of bytes are.
use Rattle.std.specs.Prelude.{◌≡◌, ◌≢◌, ℕ, List}
use Rattle.faults.specs.Memory.{ran_out}
use Rattle.grammar_tree.specs.Written.{CheckedGrammar}
use Rattle.reduce_trees_mode.specs.Candidates.{InLanguage}
use Rattle.reduce_trees_mode.specs.Input.{TreeInput}
use Rattle.reduce_trees_input.specs.Parsed.{IsInputOf}
use Rattle.reduce_trees_input.specs.Faults.{IsInputFault}
use Rattle.reduce_trees_input.specs.declared.fault.InputFault.{InputFault}
use Rattle.reduce_trees_input.specs.declared.fault.InputFault.TheVariants.{Memory}

-- A text has one input at most by a grammar, for what is admitted and whether the squeezed text is tried.
abbrev pub InputsAreOne : Type 0
InputsAreOne =
    (grammar : CheckedGrammar) (text : List ℕ) (one other : TreeInput) → IsInputOf grammar text one → IsInputOf grammar text other → one.admits ≡ other.admits
    → one.squeezes ≡ other.squeezes → one ≡ other

-- Only texts in the language have an input.
abbrev pub InputsAreInLanguage : Type 0
InputsAreInLanguage = (grammar : CheckedGrammar) (text : List ℕ) (input : TreeInput) → IsInputOf grammar text input → InLanguage grammar text

-- Bytes have one fault at most, other than out of memory; and with one they aren't in the language.
pub record HasOneFault (grammar : CheckedGrammar) (bytes : List ℕ) : Type 0 where
  pub once : (one other : InputFault) → one ≢ Memory ran_out → other ≢ Memory ran_out → IsInputFault grammar bytes one → IsInputFault grammar bytes other
      → one ≡ other
  pub refused : (fault : InputFault) → fault ≢ Memory ran_out → IsInputFault grammar bytes fault → ¬ InLanguage grammar bytes

abbrev pub InputFaultOnce : Type 0
InputFaultOnce = (grammar : CheckedGrammar) (bytes : List ℕ) → HasOneFault grammar bytes
