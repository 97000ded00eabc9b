-- The text that a fault of a grammar's text prints.
use Rattle.std.specs.Prelude.{ℕ, List, codes}
use Rattle.grammar_reader_notation.specs.FaultText.{read_fault_text}
use Rattle.grammar_check.specs.Messages.{check_fault_text}
use Rattle.grammar_load.specs.declared.fault.GrammarFault.{GrammarFault}
use Rattle.grammar_load.specs.declared.fault.GrammarFault.TheVariants.{Read, Check, Memory}

abbrev pub grammar_fault_text : GrammarFault → List ℕ
grammar_fault_text (Read fault) = read_fault_text fault
grammar_fault_text (Check fault) = check_fault_text fault
grammar_fault_text (Memory _) = codes "out of memory"
