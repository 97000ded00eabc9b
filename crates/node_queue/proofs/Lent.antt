-- What other crates' proofs cite of this crate's.
pub use Rattle.node_queue.proofs.OrderLemmas.{by_test}
pub use Rattle.node_queue.proofs.QueueLemmas.{with_node-after, with_node-before, all-with_node, stays_in_order}
