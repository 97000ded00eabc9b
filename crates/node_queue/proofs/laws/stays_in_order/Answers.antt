use Rattle.node_queue.proofs.QueueLemmas as lemmas
use Rattle.node_queue.proofs.laws.stays_in_order.Goals as goal

pub returns : goal.returns
returns c = lemmas.stays_in_order
