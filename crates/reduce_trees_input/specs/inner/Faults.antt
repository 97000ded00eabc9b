-- Beside `../Faults.antt`: what private functions and proofs need.
use Rattle.std.specs.Prelude.{ℕ, ⊤, List}
use Rattle.grammar_tree.specs.Written.{CheckedGrammar}
use Rattle.grammar_tree.specs.Checked.{StartDerives}
use Rattle.reduce_trees_input.specs.declared.fault.InputFault.{InputFault}
use Rattle.reduce_trees_input.specs.declared.fault.InputFault.TheVariants.{NoParse, Memory}

-- why tokens of these kinds have no tree
abbrev pub IsParseFault : CheckedGrammar → List ℕ → InputFault → Type 0
IsParseFault grammar kinds NoParse = ¬ StartDerives grammar kinds
IsParseFault grammar kinds (Memory _) = ⊤
IsParseFault grammar kinds _ = ⊥
