use Rattle.node_queue.proofs.QueueLemmas as lemmas
use Rattle.node_queue.proofs.laws.has_one_more.Goals as goal

pub returns : goal.returns
returns c = lemmas.has_one_more
