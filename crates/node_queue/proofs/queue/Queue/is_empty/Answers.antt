use Rattle.node_queue.proofs.HeapLemmas.{in_order-empty}
use Rattle.node_queue.proofs.queue.Queue.is_empty.Goals as goal

pub returns : goal.returns
returns c =
    rw (← c.self.view_is) (in_order-empty c.self.inside.heap.data.items c.self.inside.heap.data.len c.is_empty.result c.self.inside.heap.data.ok.0
    c.is_empty.ensures)
