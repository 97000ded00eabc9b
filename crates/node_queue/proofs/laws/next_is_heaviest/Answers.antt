use Rattle.node_queue.proofs.QueueLemmas as lemmas
use Rattle.node_queue.proofs.laws.next_is_heaviest.Goals as goal

pub returns : goal.returns
returns c = lemmas.next_is_heaviest
