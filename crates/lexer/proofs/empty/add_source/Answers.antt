use Rattle.std.proofs.Common.{arith}
use Rattle.lexer.proofs.EmptyTexts.{split_added, split_inside}
use Rattle.lexer.proofs.empty.add_source.Goals as goal

pub add_edge-requires : goal.add_edge-requires
add_edge-requires c = c.requires.inside c.in-Split.first (split_inside c.args.state.now c.in-Split.first c.in-Split.second c.in-Split.is).0

pub add_edge-requires-in-Split : goal.add_edge-requires-in-Split
add_edge-requires-in-Split c =
    omega (
      arith,
      c.requires.inside c.in-Split.second (split_inside c.args.state.now c.in-Split.first c.in-Split.second c.in-Split.is).1,
      c.in_ok-add_edge-in-Split.ensures.len,
    )

pub returns-in_ok-add_edge-in-Split-2-clause-edges : goal.returns-in_ok-add_edge-in-Split-2-clause-edges
returns-in_ok-add_edge-in-Split-2-clause-edges c i j =
    split_added c.args.state.now c.in-Split.first c.in-Split.second c.args.number i j c.in-Split.is (c.in_ok-add_edge-in-Split.ensures.edges i j)
    (c.in_ok-add_edge-in-Split-2.ensures.edges i j)
