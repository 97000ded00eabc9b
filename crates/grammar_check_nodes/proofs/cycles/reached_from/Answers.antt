use Rattle.std.proofs.Common.{◌≡◌, ◌<◌, ◌+◌, ℕ, List, Vec, Global, [], length, map, slice_index, sym, ap, ◌∙◌, subst, arith}
use Rattle.std.proofs.lemmas.List.{get_or_default, length-map}
use Rattle.grammar_check_nodes.specs.inner.Graph.{IsSearched, with_row}
use Rattle.grammar_check_nodes.proofs.Searching.{all_found, among_contains, contains_among, flag_within, next_within}
use Rattle.grammar_check_nodes.proofs.Searching.{row_at, row_length, row_within, start, step, within}
use Rattle.grammar_check_nodes.proofs.cycles.reached_from.Goals as goal

abbrev items : Vec ℕ Global → List ℕ
items v = v.items

pub add-requires : goal.add-requires
add-requires c =
    let edges = c.args.edges.now in
    let at = row_at items edges c.args.node c.index-edges-node.result c.deref.result.now c.requires.node c.index-edges-node.is c.deref.ensures.value in
    λ k d lt. omega (arith, row_within items edges c.args.node c.deref.result.now c.requires.closed at k d lt, c.in_ok-search.ensures.0)

pub loop-done-init : goal.loop-done-init
loop-done-init c =
    let edges = c.args.edges.now in
    let at = row_at items edges c.args.node c.index-edges-node.result c.deref.result.now c.requires.node c.index-edges-node.is c.deref.ensures.value in
    let P : List ℕ → Type 0 = λ f. IsSearched (map items edges) c.args.node f 0 in
    let found : c.add.new.self.found.items ≡ with_row [] c.deref.result.now =
    c.in_ok-add.ensures.found ∙ ap (λ f. with_row f c.deref.result.now) c.in_ok-search.ensures.1 in
    (omega (arith, c.in_ok-search.ensures.0), omega arith, subst P (sym found) (start (map items edges) c.args.node c.deref.result.now at))

pub bounds-edges-next : goal.bounds-edges-next
bounds-edges-next c =
    let s = c.loop-done.search in
    next_within items c.args.edges.now c.args.node s.found.items c.loop-done.done c.index-next.result.now c.requires.closed c.loop-done.invariant.2
    (omega (arith, s.found.ok.0)) c.index-next.ensures

pub add-requires-in-loop-done : goal.add-requires-in-loop-done
add-requires-in-loop-done c =
    let edges = c.args.edges.now in
    let lt =
    next_within items edges c.args.node c.loop-done.search.found.items c.loop-done.done c.index-next.result.now c.requires.closed c.loop-done.invariant.2
    (omega (arith, c.loop-done.search.found.ok.0)) c.index-next.ensures in
    let at =
    row_at items edges c.index-next.result.now c.index-edges-next.result c.deref-in-loop-done.result.now lt c.index-edges-next.is
    c.deref-in-loop-done.ensures.value in
    λ k d lt. omega (arith, row_within items edges c.index-next.result.now c.deref-in-loop-done.result.now c.requires.closed at k d lt, c.loop-done.invariant.0)

pub loop-done-preserved : goal.loop-done-preserved
loop-done-preserved c =
    let edges = c.args.edges.now in
    let s = c.loop-done.search in
    let lt = next_within items edges c.args.node c.loop-done.search.found.items c.loop-done.done c.index-next.result.now c.requires.closed
    c.loop-done.invariant.2 (omega (arith, c.loop-done.search.found.ok.0)) c.index-next.ensures in
    let at = row_at items edges c.index-next.result.now c.index-edges-next.result c.deref-in-loop-done.result.now lt c.index-edges-next.is
    c.deref-in-loop-done.ensures.value in
    let below : c.loop-done.done < length s.found.items = omega (arith, s.found.ok.0) in
    let is : c.index-next.result.now ≡ slice_index s.found.items c.loop-done.done =
    c.index-next.ensures ∙ get_or_default s.found.items c.loop-done.done c.index-next.result.now 0 below in
    let next =
    step (map items edges) c.args.node s.found.items c.deref-in-loop-done.result.now c.loop-done.done c.index-next.result.now c.loop-done.invariant.2 below is
    at in
    let P : List ℕ → Type 0 = λ f. IsSearched (map items edges) c.args.node f (c.loop-done.done + 1) in
    let found : c.add-in-loop-done.new.self.found.items ≡ with_row s.found.items c.deref-in-loop-done.result.now = c.in_ok-add-2.ensures.found in (
      omega (arith, c.loop-done.invariant.0, c.in_ok-add-2.ensures.nodes),
      omega (arith, row_length c.deref-in-loop-done.result.now s.found.items, ap length found, c.add-in-loop-done.new.self.found.ok.0),
      subst P (sym found) next,
    )

pub returns-clause-reached : goal.returns-clause-reached
returns-clause-reached c j =
    let edges = c.args.edges.now in
    let s = c.loop-done.search in
    let P : ℕ → Type 0 = λ n. IsSearched (map items edges) c.args.node s.found.items n in
    let ended : c.loop-done.done ≡ length s.found.items = omega (arith, s.found.ok.0) in
    let whole = subst P ended c.loop-done.invariant.2 in (
      λ flag. whole.sound j (among_contains s.found.items j (sym (s.agree j (omega (arith, flag_within s.reached.items j flag, s.reached.ok.0))) ∙ flag)),
      λ path.
          let among = all_found (map items edges) c.args.node s.found.items j whole path in
          s.agree j
          (omega (
            arith,
            within (map items edges) c.args.node s.found.items c.loop-done.done j c.requires.closed c.loop-done.invariant.2 among,
            length-map edges items,
            c.loop-done.invariant.0,
          )) ∙ contains_among s.found.items j among,
    )
