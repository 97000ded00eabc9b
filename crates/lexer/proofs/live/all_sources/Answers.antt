use Rattle.std.proofs.Common.{◌≡◌, ℕ, List, Vec, Global, Some, map, slice_get, length, ap, ◌∙◌, sym, arith}
use Rattle.std.proofs.lemmas.Option.{slice_get-get_or}
use Rattle.lexer.proofs.LiveStates.{all_sources_all, all_sources_more, all_sources_none, leads_inside}
use Rattle.lexer.proofs.live.all_sources.Goals as goal

abbrev items : Vec ℕ Global → List ℕ
items v = v.items

pub loop-number-init : goal.loop-number-init
loop-number-init c =
    record { len = c.in_ok-rows.ensures.len; edges = all_sources_none c.args.nfa.now (map items c.in_ok-rows.rows.items) c.in_ok-rows.ensures.none }

pub add_all_sources-requires : goal.add_all_sources-requires
add_all_sources-requires c =
    let at : slice_get c.args.nfa.now c.loop-number.number ≡ Some c.index-nfa-number.result =
    slice_get-get_or c.args.nfa.now c.loop-number.number c.index-nfa-number.result (omega arith) ∙ ap Some (sym c.index-nfa-number.is) in
    record {
      inside =
          λ next leads. omega (
            arith,
            leads_inside (length c.args.nfa.now) c.index-nfa-number.result next
                (c.requires.closed c.loop-number.number c.index-nfa-number.result at) leads,
            c.loop-number.invariant.len,
          );
    }

pub loop-number-preserved : goal.loop-number-preserved
loop-number-preserved c =
    let at : slice_get c.args.nfa.now c.loop-number.number
    ≡ Some c.index-nfa-number.result =
    slice_get-get_or c.args.nfa.now c.loop-number.number c.index-nfa-number.result (omega arith) ∙ ap Some (sym c.index-nfa-number.is) in
    record {
      len = omega (arith, c.in_ok-add_all_sources.ensures.len, c.loop-number.invariant.len);
      edges =
          all_sources_more c.args.nfa.now (map items c.loop-number.rows.items)
          (map items c.add_all_sources.new.rows.items) c.loop-number.number c.index-nfa-number.result at c.in_ok-add_all_sources.ensures.edges
          c.loop-number.invariant.edges;
    }

pub returns-clause-edges : goal.returns-clause-edges
returns-clause-edges c = all_sources_all c.args.nfa.now (map items c.loop-number.rows.items) c.loop-number.number (omega arith) c.loop-number.invariant.edges
