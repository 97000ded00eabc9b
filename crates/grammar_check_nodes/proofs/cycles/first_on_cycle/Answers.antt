use Rattle.std.proofs.Common.{ℕ, List, Vec, Global, length, map, sym, subst, arith}
use Rattle.grammar_check_nodes.specs.Graph.{IsClosed}
use Rattle.grammar_check_nodes.proofs.Searching.{closed_rows, on_cycle_within}
use Rattle.grammar_check_nodes.proofs.cycles.first_on_cycle.Goals as goal

abbrev items : Vec ℕ Global → List ℕ
items v = v.items

pub callees_first-requires-clause-closed : goal.callees_first-requires-clause-closed
callees_first-requires-clause-closed c =
    let rows = c.in_ok-back.back.items in
    let P : List (Vec ℕ Global) → Type 0 = λ l. IsClosed (map items l) in
    subst P (sym c.deref.ensures.value) (closed_rows items rows (length c.args.edges.now)
    (omega (arith, c.in_ok-back.ensures.len, c.in_ok-back.back.ok.0)) c.in_ok-back.ensures.within)

pub returns : goal.returns
returns c = λ i cycle. c.loop-node.invariant i (omega (arith, on_cycle_within items c.args.edges.now i cycle)) cycle

pub returns-then-branch : goal.returns-then-branch
returns-then-branch c = record { holds = c.in_ok-is_on_cycle.ensures.0 c.if-branch.true; before = c.loop-node.invariant }
