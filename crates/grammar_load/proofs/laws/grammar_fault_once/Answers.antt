use Rattle.grammar_load.proofs.OneFault as lemma
use Rattle.grammar_load.proofs.laws.grammar_fault_once.Goals as goal

pub returns : goal.returns
returns c = lemma.grammar_fault_once
