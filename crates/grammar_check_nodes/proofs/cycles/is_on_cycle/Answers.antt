use Rattle.std.proofs.Common.{ℕ, List, Vec, Global, map, sym, true≢false}
use Rattle.grammar_check_nodes.proofs.Searching.{falls_at, not_on_cycle, row_at}
use Rattle.grammar_check_nodes.proofs.cycles.is_on_cycle.Goals as goal

abbrev items : Vec ℕ Global → List ℕ
items v = v.items

pub returns-then-all_below : goal.returns-then-all_below
returns-then-all_below c =
    let edges = c.args.edges.now in
    let rows = map items edges in
    let numbers = c.args.numbers.now in
    let at = row_at items edges c.args.node c.index-edges-node.result c.deref.result.now c.requires.node c.index-edges-node.is c.deref.ensures.value in
    let falls = falls_at rows numbers c.args.node c.deref.result.now at (c.all_below.ensures c.if-all_below.true) in (
      λ h. absurd (true≢false (sym h)),
      λ cycle. absurd (not_on_cycle rows numbers c.args.node (c.requires.never c.if-never_rise.true) falls cycle),
    )
