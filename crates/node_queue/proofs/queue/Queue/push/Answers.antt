use Rattle.std.proofs.Common.{ap, ◌∙◌}
use Rattle.node_queue.specs.Waiting.{with_node}
use Rattle.node_queue.proofs.HeapLemmas.{in_order-permutation}
use Rattle.node_queue.proofs.queue.Queue.push.Goals as goal

pub returns-clause-ok : goal.returns-clause-ok
returns-clause-ok c =
    in_order-permutation _ _ c.in_ok-push.ensures.permutation
    ∙ ap (with_node (record { node = c.args.node; weight = c.args.weight; first = c.args.first })) c.self.view_is
