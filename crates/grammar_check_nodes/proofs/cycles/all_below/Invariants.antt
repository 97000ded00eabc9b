use Rattle.std.proofs.Common.{ℕ, ◌<◌, slice_index}
use Rattle.grammar_check_nodes.proofs.cycles.all_below.Given as goal

abbrev pub invariant-loop-node : goal.invariant-loop-node
invariant-loop-node l = (k : ℕ) → k < l.node-index → slice_index l.numbers (slice_index l.row k) < l.limit
