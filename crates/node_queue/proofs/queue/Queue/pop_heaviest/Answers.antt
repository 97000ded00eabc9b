use Rattle.std.proofs.Common.{subst, sym, ◌∙◌}
use Rattle.std.specs.BinaryHeap.{heap_items}
use Rattle.node_queue.specs.inner.Heap.{in_order, waiting_of}
use Rattle.node_queue.specs.Waiting.{IsInOrder}
use Rattle.node_queue.proofs.HeapLemmas.{first-of, in_order-top, is_in_order, later-of}
use Rattle.node_queue.proofs.queue.Queue.pop_heaviest.Goals as goal

pub returns-clause-next : goal.returns-clause-next
returns-clause-next c =
    first-of (waiting_of c.in_ok-node.field-0) c.args.self.now (in_order (heap_items c.pop.new.self))
    (sym c.self.view_is ∙ in_order-top c.in_ok-node.field-0 _ _ c.in_ok-node.ensures.permutation (c.in_ok-node.ensures.below_top c.self.invariant))

pub returns-clause-later : goal.returns-clause-later
returns-clause-later c =
    later-of (waiting_of c.in_ok-node.field-0) c.args.self.now (in_order (heap_items c.pop.new.self))
    (sym c.self.view_is ∙ in_order-top c.in_ok-node.field-0 _ _ c.in_ok-node.ensures.permutation (c.in_ok-node.ensures.below_top c.self.invariant))

pub returns-clause-order : goal.returns-clause-order
returns-clause-order c = subst IsInOrder c.self.view_is (is_in_order (heap_items c.self.inside.heap))
