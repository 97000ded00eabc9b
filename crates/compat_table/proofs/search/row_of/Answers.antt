use Rattle.std.proofs.Common.{◌≡◌, ◌+◌, ◌<◌, length, slice_index, sym, ap, ◌∙◌, arith}
use Rattle.std.specs.Global.{Vec}
use Rattle.normal_form.specs.declared.normal.Sym.{Sym}
use Rattle.std.proofs.lemmas.List.{get_or_default, length-map}
use Rattle.compat_table.specs.inner.Rows.{Symbols, size}
use Rattle.compat_table.specs.inner.View.{edges_of, symbols_of}
use Rattle.compat_table.proofs.Searching.{marked_none, none_among, row_at, search_begun, search_more, searched_whole}
use Rattle.compat_table.proofs.search.row_of.Goals as goal

pub add-requires-clause-symbols : goal.add-requires-clause-symbols
add-requires-clause-symbols c q at =
    let E = c.args.edges.now in
    let row = row_at E c.args.rule c.index-edges-rule.result c.deref.result.now c.requires.rule c.index-edges-rule.is c.deref.ensures.value in
    omega (arith, c.requires.closed c.args.rule q (c.deref.result.now, row, at), length-map E (λ (v : Vec Sym). v.items), c.requires.marks_len)

pub add-requires-clause-marked : goal.add-requires-clause-marked
add-requires-clause-marked c =
    marked_none c.args.marks.now (c.args.rule + 1) (symbols_of c.new-row.result) (ap (λ (s : Symbols). s.rules) c.new-row.ensures) c.requires.marks

pub loop-done-init : goal.loop-done-init
loop-done-init c =
    let E = c.args.edges.now in
    let row = row_at E c.args.rule c.index-edges-rule.result c.deref.result.now c.requires.rule c.index-edges-rule.is c.deref.ensures.value in
    record {
      searched =
          search_begun (edges_of E) c.args.rule (symbols_of c.new-row.result) (symbols_of c.add.new.self) c.deref.result.now row
          (none_among (symbols_of c.new-row.result) c.new-row.ensures) c.in_ok-add.ensures.grown;
      marked = c.in_ok-add.ensures.marked;
      below = c.in_ok-add.ensures.same (c.args.rule + 2) (omega arith) (λ k d lt. omega (arith, c.requires.marks k d lt));
      within = omega arith;
      few_found = c.in_ok-add.ensures.few;
      found = omega (arith, c.in_ok-add.ensures.found, c.in_ok-add.ensures.grown.few, ap size c.new-row.ensures);
    }

pub bounds-edges-next : goal.bounds-edges-next
bounds-edges-next c =
    let rules = c.loop-done.row.rules in
    let there = c.loop-done.invariant.marked.within c.index-next.result.now (c.loop-done.done, omega (arith, rules.ok.0), sym c.index-next.ensures) in
    omega (arith, there, c.loop-done.auto.marks, c.requires.marks_len)

pub add-requires-in-loop-done-clause-symbols : goal.add-requires-in-loop-done-clause-symbols
add-requires-in-loop-done-clause-symbols c q at =
    let E = c.args.edges.now in
    let next = c.index-next.result.now in
    let there = c.loop-done.invariant.marked.within next (c.loop-done.done, omega (arith, c.loop-done.row.rules.ok.0), sym c.index-next.ensures) in
    let row =
    row_at E next c.index-edges-next.result c.deref-in-loop-done.result.now
    (omega (arith, there, c.loop-done.auto.marks, c.requires.marks_len)) c.index-edges-next.is c.deref-in-loop-done.ensures.value in
    omega (
      arith,
      c.requires.closed next q (c.deref-in-loop-done.result.now, row, at),
      length-map E (λ (v : Vec Sym). v.items),
      c.requires.marks_len,
      c.loop-done.auto.marks,
    )

pub loop-done-preserved : goal.loop-done-preserved
loop-done-preserved c =
    let E = c.args.edges.now in
    let next = c.index-next.result.now in
    let rules = c.loop-done.row.rules in
    let lt : c.loop-done.done < length rules.items = omega (arith, rules.ok.0) in
    let there = c.loop-done.invariant.marked.within next (c.loop-done.done, lt, sym c.index-next.ensures) in
    let row = row_at E next c.index-edges-next.result c.deref-in-loop-done.result.now
    (omega (arith, there, c.loop-done.auto.marks, c.requires.marks_len)) c.index-edges-next.is c.deref-in-loop-done.ensures.value in
    let is : next ≡ slice_index rules.items c.loop-done.done = c.index-next.ensures ∙ get_or_default rules.items c.loop-done.done next 0 lt in
    let grown = c.in_ok-add-2.ensures.grown in
    record {
      searched =
          search_more (edges_of E) c.args.rule (symbols_of c.loop-done.row)
          (symbols_of c.add-in-loop-done.new.self) c.deref-in-loop-done.result.now c.loop-done.done next c.loop-done.invariant.searched lt is row grown;
      marked = c.in_ok-add-2.ensures.marked;
      below = c.in_ok-add-2.ensures.same (c.args.rule + 2) (omega arith) c.loop-done.invariant.below;
      within = omega (arith, lt, grown.longer, c.add-in-loop-done.new.self.rules.ok.0);
      few_found = c.in_ok-add-2.ensures.few;
      found = omega (arith, c.in_ok-add-2.ensures.found, grown.few, c.loop-done.invariant.found);
    }

pub returns-clause-row : goal.returns-clause-row
returns-clause-row c =
    let row = c.loop-done.row in
    let whole =
    searched_whole (edges_of c.args.edges.now) c.args.rule (symbols_of row) c.loop-done.done c.loop-done.invariant.searched (omega (arith, row.rules.ok.0))
    (omega (arith, row.rules.ok.0, c.loop-done.invariant.within)) in
    record {
      sound = λ t at. whole.sound t ((c.sorted.ensures.same t).0 at);
      complete = λ t path. (c.sorted.ensures.same t).1 (whole.complete t path);
    }

pub returns-clause-found : goal.returns-clause-found
returns-clause-found c = omega (arith, c.loop-done.invariant.found, c.sorted.ensures.few)
