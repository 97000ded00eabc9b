use Rattle.std.proofs.Common.{ap, ◌∙◌}
use Rattle.node_queue.specs.inner.Heap.{in_order}
use Rattle.node_queue.proofs.HeapLemmas.{in_order-permutation}
use Rattle.node_queue.proofs.queue.Queue.copy.Goals as goal

pub returns : goal.returns
returns c =
    in_order-permutation _ _ c.from.ensures.1 ∙ ap in_order (c.in_ok-entries.ensures.items ∙ c.as_slice.ensures.value) ∙ c.self.view_is
