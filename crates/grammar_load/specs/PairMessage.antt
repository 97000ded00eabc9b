-- The text that a fault of two texts prints.
use Rattle.std.specs.Prelude.{ℕ, List, codes}
use Rattle.grammar_check.specs.Messages.{check_fault_text}
use Rattle.grammar_pair.specs.Message.{pair_fault_text}
use Rattle.grammar_load.specs.declared.pair_fault.PairGrammarFault.{PairGrammarFault}
use Rattle.grammar_load.specs.declared.pair_fault.PairGrammarFault.TheVariants.{Pair, Check, Memory}

abbrev pub pair_grammar_fault_text : PairGrammarFault → List ℕ
pair_grammar_fault_text (Pair fault) = pair_fault_text fault
pair_grammar_fault_text (Check fault) = check_fault_text fault
pair_grammar_fault_text (Memory _) = codes "out of memory"
