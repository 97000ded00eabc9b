use Rattle.std.proofs.Common.{◌↔◌, ℕ, List, Vec, Global, map, length, ap, sym, subst, arith}
use Rattle.std.proofs.lemmas.List.{length-map}
use Rattle.grammar_check_nodes.specs.Graph.{HasEdge}
use Rattle.lexer.specs.inner.Live.{LeadsTo}
use Rattle.lexer.proofs.LiveStates.{read_flags, source_inside}
use Rattle.lexer.proofs.live.read_something.Goals as goal

abbrev items : Vec ℕ Global → List ℕ
items v = v.items

pub reached_from-requires-clause-closed : goal.reached_from-requires-clause-closed
reached_from-requires-clause-closed c i j edge =
    let Q : List (Vec ℕ Global) → Type 0 = λ l. (i j : ℕ) → HasEdge (map items l) i j ↔ LeadsTo c.args.nfa.now j i in
    let edges = subst Q (sym c.deref.ensures.value) c.in_ok-rows.ensures.edges in
    omega (
      arith,
      source_inside c.args.nfa.now (map items c.deref.result.now) edges i j edge,
      length-map c.deref.result.now items,
      ap length c.deref.ensures.value,
      c.in_ok-rows.ensures.len,
      c.in_ok-rows.rows.ok.0,
    )

pub returns-clause-flags : goal.returns-clause-flags
returns-clause-flags c =
    let Q : List (Vec ℕ Global) → Type 0 = λ l. (i j : ℕ) → HasEdge (map items l) i j ↔ LeadsTo c.args.nfa.now j i in
    let edges = subst Q (sym c.deref.ensures.value) c.in_ok-rows.ensures.edges in
    read_flags c.args.nfa.now (map items c.deref.result.now) edges c.in_ok-flags.flags.items
    (omega (
      arith,
      c.in_ok-flags.ensures.len,
      c.in_ok-flags.flags.ok.0,
      ap length c.deref.ensures.value,
      c.in_ok-rows.ensures.len,
      c.in_ok-rows.rows.ok.0,
      c.requires.some,
    )) c.in_ok-flags.ensures.reached
