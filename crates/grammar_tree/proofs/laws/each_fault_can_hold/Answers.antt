use Rattle.grammar_tree.proofs.FaultRows as lemma
use Rattle.grammar_tree.proofs.laws.each_fault_can_hold.Goals as goal

pub returns : goal.returns
returns c = lemma.each_fault_can_hold
