use Rattle.reduce_trees_input.proofs.OneFault as lemma
use Rattle.reduce_trees_input.proofs.laws.input_fault_once.Goals as goal

pub returns : goal.returns
returns c = lemma.input_fault_once c.tokens_are_unique.ensures c.tokens_have_no_stop.ensures c.stops_once.ensures
