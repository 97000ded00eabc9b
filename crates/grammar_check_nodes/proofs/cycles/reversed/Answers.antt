use Rattle.std.proofs.Common.{ℕ, List, Vec, Global, arith}
use Rattle.grammar_check_nodes.proofs.Searching.{row_at, row_within}
use Rattle.grammar_check_nodes.proofs.cycles.reversed.Goals as goal

abbrev items : Vec ℕ Global → List ℕ
items v = v.items

pub add_reversed-requires : goal.add_reversed-requires
add_reversed-requires c =
    let edges = c.args.edges.now in
    let i = c.loop-node.node in
    let at = row_at items edges i c.index-edges-node.result c.deref.result.now (omega arith) c.index-edges-node.is c.deref.ensures.value in
    record { row = λ k d lt. omega (arith, row_within items edges i c.deref.result.now c.requires.closed at k d lt, c.loop-node.invariant.0) }
