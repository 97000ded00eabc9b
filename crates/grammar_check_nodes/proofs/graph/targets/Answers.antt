use Rattle.std.proofs.Common.{◌≡◌, ◌+◌, ℕ, List, Vec, Global, length, map, sym, subst, arith}
use Rattle.std.proofs.lemmas.List.{length-map}
use Rattle.grammar_check_nodes.specs.inner.Graph.{AreFound}
use Rattle.grammar_check_nodes.proofs.Searching.{none_found, row_at, row_found, row_within, targets}
use Rattle.grammar_check_nodes.proofs.graph.targets.Goals as goal

abbrev items : Vec ℕ Global → List ℕ
items v = v.items

pub loop-row-init : goal.loop-row-init
loop-row-init c =
    let rows = map items c.args.edges.now in
    let P : List ℕ → Type 0 = λ l. AreFound rows l 0 in
    (omega (arith, c.in_ok-search.ensures.0), subst P (sym c.in_ok-search.ensures.1) (none_found rows))

pub add-requires : goal.add-requires
add-requires c =
    let edges = c.args.edges.now in
    let i = c.loop-row.row-index in
    let at = row_at items edges i c.row-item.result c.deref.result.now (omega arith) c.row-item.is c.deref.ensures.value in
    λ k d lt. omega (arith, row_within items edges i c.deref.result.now c.requires at k d lt, c.loop-row.invariant.0)

pub loop-row-preserved : goal.loop-row-preserved
loop-row-preserved c =
    let edges = c.args.edges.now in
    let rows = map items edges in
    let i = c.loop-row.row-index in
    let at = row_at items edges i c.row-item.result c.deref.result.now (omega arith) c.row-item.is c.deref.ensures.value in
    let P : List ℕ → Type 0 = λ l. AreFound rows l (i + 1) in (
      omega (arith, c.loop-row.invariant.0, c.in_ok-add.ensures.nodes),
      subst P (sym c.in_ok-add.ensures.found) (row_found rows c.loop-row.search.found.items c.deref.result.now i c.loop-row.invariant.1 at),
    )

pub returns : goal.returns
returns c =
    let edges = c.args.edges.now in
    let rows = map items edges in
    let s = c.loop-row.search in
    let P : ℕ → Type 0 = λ n. AreFound rows s.found.items n in
    let whole : c.loop-row.row-index ≡ length rows = omega (arith, length-map edges items) in
    targets rows s.found.items s.reached.items (subst P whole c.loop-row.invariant.1) c.requires
    (omega (arith, c.loop-row.invariant.0, s.reached.ok.0, length-map edges items))
    (λ j lt. s.agree j (omega (arith, s.reached.ok.0)))
