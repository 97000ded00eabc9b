-- What `check` answers.
use Rattle.std.specs.Prelude.{◌≡◌, ℕ, List, Option, Some, Result, Ok, Err}
use Rattle.grammar_tree.specs.Faults.{start_of}
use Rattle.grammar_tree.specs.Written.{CheckedGrammar, WrittenGrammar}
use Rattle.grammar_check.specs.CheckFaults.{IsFault}
use Rattle.grammar_check.specs.declared.fault.CheckFault.{CheckFault}

-- the checked grammar with its start, which is then well-formed with its kinds by what a checked grammar is; or its first fault
abbrev pub IsCheckAnswer : WrittenGrammar → Option (List ℕ) → Result CheckedGrammar CheckFault → Type 0
IsCheckAnswer G wanted (Ok c) = (c.grammar ≡ G) × (start_of G wanted ≡ Some c.start)
IsCheckAnswer G wanted (Err it) = IsFault G wanted it
