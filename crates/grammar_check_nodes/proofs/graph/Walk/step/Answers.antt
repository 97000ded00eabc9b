use Rattle.std.proofs.Common.{◌<◌, ℕ, List, Vec, Global, vec_len, arith}
use Rattle.std.proofs.lemmas.List.Elements.{All-pop}
use Rattle.grammar_check_nodes.proofs.Searching.{row_at, row_within}
use Rattle.grammar_check_nodes.proofs.Walking.{All-pushed, last_of}
use Rattle.grammar_check_nodes.proofs.graph.Walk.step.Goals as goal

abbrev items : Vec ℕ Global → List ℕ
items v = v.items

pub enter-requires : goal.enter-requires
enter-requires c =
    let walk = c.args.self.now in
    let P : ℕ × ℕ → Type 0 = λ p. p.0 < vec_len walk.entered in
    let node = last_of P walk.path.items c.pop.new.self.items (c.in-Some.node, c.in-Some.next) c.in-Some.ensures.items walk.path_within in
    let edges = c.args.edges.now in
    let at =
    row_at items edges c.in-Some.node c.index-edges-node.result c.as_slice-row.result.now
    (omega (arith, node, c.requires.nodes)) c.index-edges-node.is c.as_slice-row.ensures.value in
    omega (arith, c.requires.nodes, row_within items edges c.in-Some.node c.as_slice-row.result.now c.requires.closed at c.in-Some.next 0 (omega arith))

pub invariant_of-self-else-next-row : goal.invariant_of-self-else-next-row
invariant_of-self-else-next-row c =
    let walk = c.args.self.now in
    let P : ℕ × ℕ → Type 0 = λ p. p.0 < vec_len walk.entered in
    let Q : ℕ → Type 0 = λ j. j < vec_len walk.entered in
    let node = last_of P walk.path.items c.pop.new.self.items (c.in-Some.node, c.in-Some.next) c.in-Some.ensures.items walk.path_within in
    record {
      path_within = (All-pop P walk.path.items c.pop.new.self.items c.pop.result c.pop.ensures.items walk.path_within).0;
      finished_within =
          All-pushed Q _ c.push-else-next-row.new.self.items walk.finished.items c.in-Some.node c.push-else-next-row.ensures.items walk.finished_within node;
    }
