use Rattle.std.proofs.Common.{◌↔◌, ℕ, List, Vec, Global, map, length, ap, sym, subst, arith}
use Rattle.std.proofs.lemmas.List.{length-map}
use Rattle.grammar_check_nodes.specs.Graph.{HasEdge}
use Rattle.lexer_match.specs.inner.StateSets.{GoesTo}
use Rattle.lexer.proofs.EmptyTexts.{edge_inside, read_nothing}
use Rattle.lexer.proofs.empty.read_nothing.Goals as goal

abbrev items : Vec ℕ Global → List ℕ
items v = v.items

pub reached_from-requires-clause-closed : goal.reached_from-requires-clause-closed
reached_from-requires-clause-closed c i j edge =
    let Q : List (Vec ℕ Global) → Type 0 = λ l. (i j : ℕ) → HasEdge (map items l) i j ↔ GoesTo c.args.nfa.now j i in
    let edges = subst Q (sym c.deref.ensures.value) c.in_ok-rows.ensures.edges in
    omega (
      arith,
      edge_inside c.args.nfa.now (map items c.deref.result.now) edges c.requires.closed i j edge,
      length-map c.deref.result.now items,
      ap length c.deref.ensures.value,
      c.in_ok-rows.ensures.len,
      c.in_ok-rows.rows.ok.0,
    )

pub returns-clause-flags : goal.returns-clause-flags
returns-clause-flags c =
    let Q : List (Vec ℕ Global) → Type 0 = λ l. (i j : ℕ) → HasEdge (map items l) i j ↔ GoesTo c.args.nfa.now j i in
    let edges = subst Q (sym c.deref.ensures.value) c.in_ok-rows.ensures.edges in
    read_nothing c.args.nfa.now (map items c.deref.result.now) edges c.in_ok-flags.flags.items
    (omega (
      arith,
      c.in_ok-flags.ensures.len,
      c.in_ok-flags.flags.ok.0,
      ap length c.deref.ensures.value,
      c.in_ok-rows.ensures.len,
      c.in_ok-rows.rows.ok.0,
      c.requires.some,
    )) c.in_ok-flags.ensures.reached
