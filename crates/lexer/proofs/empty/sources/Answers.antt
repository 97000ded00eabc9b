use Rattle.std.proofs.Common.{◌≡◌, ℕ, List, Vec, Global, Some, map, slice_get, length, ap, ◌∙◌, sym, arith}
use Rattle.std.proofs.lemmas.Option.{slice_get-get_or}
use Rattle.lexer.proofs.EmptyTexts.{from_inside, no_sources_yet, sources_all, sources_more}
use Rattle.lexer.proofs.empty.sources.Goals as goal

abbrev items : Vec ℕ Global → List ℕ
items v = v.items

pub loop-number-init : goal.loop-number-init
loop-number-init c =
    record { len = c.in_ok-rows.ensures.len; edges = no_sources_yet c.args.nfa.now (map items c.in_ok-rows.rows.items) c.in_ok-rows.ensures.none }

pub add_source-requires : goal.add_source-requires
add_source-requires c =
    let at : slice_get c.args.nfa.now c.loop-number.number ≡ Some c.index-nfa-number.result =
    slice_get-get_or c.args.nfa.now c.loop-number.number c.index-nfa-number.result (omega arith) ∙ ap Some (sym c.index-nfa-number.is) in
    record {
      inside =
          λ next goes. omega (
            arith,
            from_inside (length c.args.nfa.now) c.index-nfa-number.result next
                (c.requires.closed c.loop-number.number c.index-nfa-number.result at) goes,
            c.loop-number.invariant.len,
          );
    }

pub loop-number-preserved : goal.loop-number-preserved
loop-number-preserved c =
    let at : slice_get c.args.nfa.now c.loop-number.number
    ≡ Some c.index-nfa-number.result =
    slice_get-get_or c.args.nfa.now c.loop-number.number c.index-nfa-number.result (omega arith) ∙ ap Some (sym c.index-nfa-number.is) in
    record {
      len = omega (arith, c.in_ok-add_source.ensures.len, c.loop-number.invariant.len);
      edges =
          sources_more c.args.nfa.now (map items c.loop-number.rows.items)
          (map items c.add_source.new.rows.items) c.loop-number.number c.index-nfa-number.result at c.in_ok-add_source.ensures.edges
          c.loop-number.invariant.edges;
    }

pub returns-clause-edges : goal.returns-clause-edges
returns-clause-edges c = sources_all c.args.nfa.now (map items c.loop-number.rows.items) c.loop-number.number (omega arith) c.loop-number.invariant.edges
