use Rattle.std.proofs.Common.{◌≡◌, Bool, List, Some, slice_get, sym, ap, ◌∙◌, subst, length, arith, length-append, ◌∷◌, []}
use Rattle.std.proofs.lemmas.Option.{slice_get-get_or}
use Rattle.lexer.specs.inner.Live.{AreReadFlags}
use Rattle.lexer_match.proofs.Lent.{both_ways}
use Rattle.lexer.proofs.LiveStates.{live_all, live_by, live_more}
use Rattle.lexer.proofs.live.live_states.Goals as goal

pub loop-state-preserved : goal.loop-state-preserved
loop-state-preserved c =
    let P = c.args.nfa.now in
    let i = c.loop-state.state-index in
    let x = c.state-item.result in
    let at : slice_get P i ≡ Some x = slice_get-get_or P i x (omega arith) ∙ ap Some (sym c.state-item.is) in
    let F : List Bool → Type 0 = λ l. AreReadFlags P l in
    let are = subst F (sym c.deref.ensures.value) c.in_ok-flags.ensures.flags in
    record {
      len = omega (arith, ap length c.in_ok-push.ensures.items, length-append c.loop-state.live.items (c.is_live.result ∷ []), c.loop-state.invariant.len);
      live =
          live_more P c.loop-state.live.items c.push.new.self.items i c.is_live.result c.in_ok-push.ensures.items c.loop-state.invariant.len
          (both_ways c.is_live.ensures (live_by P c.deref.result.now i x are at)) c.loop-state.invariant.live;
    }

pub returns : goal.returns
returns c = live_all c.args.nfa.now c.loop-state.live.items c.loop-state.state-index c.loop-state.invariant.len (omega arith) c.loop-state.invariant.live
