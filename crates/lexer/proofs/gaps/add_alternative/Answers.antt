use Rattle.std.proofs.Common.{◌<◌, ℕ, List, length, slice_get, slice_index_or, sym, ap, ◌∙◌, subst, arith}
use Rattle.std.proofs.lemmas.Bool.{false≢true}
use Rattle.std.proofs.lemmas.List.Elements.{Contains-get_or}
use Rattle.lexer_match.specs.Nfa.{GoesBelow}
use Rattle.lexer_nfa.proofs.Lent.{with_none, with_same}
use Rattle.lexer_match.proofs.Lent.{both_ways, or_same}
use Rattle.lexer.proofs.Singles.{last_all, last_more, last_none, not_alone, sum_more}
use Rattle.lexer.proofs.gaps.add_alternative.Goals as goal

pub returns-then-ends_at_once-clause-added : goal.returns-then-ends_at_once-clause-added
returns-then-ends_at_once-clause-added c k d scalar =
    let a = c.args.beginning.now.alternative in
    let both = c.ends_at_once.ensures.yes c.if-ends_at_once.true in
    with_none k a.kind (not_alone c.args.nfa.now a d both.0 ((c.requires.flags a.start).0 both.1))

pub loop-number-init : goal.loop-number-init
loop-number-init c =
    record {
      added = λ k d scalar. with_none k c.args.beginning.now.alternative.kind (last_none c.args.nfa.now c.args.flags.now c.args.beginning.now.states.items d);
      order = λ before. before;
    }

pub state_at-requires : goal.state_at-requires
state_at-requires c =
    let states = c.deref-number-items.result.now in
    let i = c.loop-number.number-index in
    let Q : List ℕ → Type 0 = λ l. slice_index_or l i 0 < length c.args.nfa.now in
    subst Q (sym c.deref-number-items.ensures.value)
    (c.requires.beginning.inside _ (Contains-get_or c.args.beginning.now.states.items i 0 (omega (arith, ap length c.deref-number-items.ensures.value))))

pub add_state-requires : goal.add_state-requires
add_state-requires c =
    let Q : ℕ → Type 0 = λ n. GoesBelow n c.state_at.result.now in
    record { inside = subst Q (sym c.requires.size) (c.requires.closed _ c.state_at.result.now c.state_at.ensures) }

pub loop-number-preserved : goal.loop-number-preserved
loop-number-preserved c =
    let P = c.args.nfa.now in
    let i = c.loop-number.number-index in
    let at = ap (λ l. slice_get P (slice_index_or l i 0)) (sym c.deref-number-items.ensures.value) ∙ c.state_at.ensures in
    record {
      added =
          λ k d scalar. sum_more (c.loop-number.invariant.added k d scalar) (c.in_ok-add_state.ensures.added k d scalar)
          (last_more P c.args.flags.now c.args.beginning.now.states.items i d c.state_at.result.now at);
      order = λ before. c.in_ok-add_state.ensures.order (c.loop-number.invariant.order before);
    }

pub returns-clause-added : goal.returns-clause-added
returns-clause-added c k d scalar =
    let a = c.args.beginning.now.alternative in
    let i = c.loop-number.number-index in
    let P = c.args.nfa.now in
    both_ways (c.loop-number.invariant.added k d scalar)
    (or_same (with_same k a.kind
    (last_all P c.args.flags.now c.requires.flags a c.args.beginning.now.states.items i d (omega (arith, ap length c.deref-number-items.ensures.value))
    (omega (arith, ap length c.deref-number-items.ensures.value)) c.requires.beginning.first
    (λ short r. false≢true (sym (c.ends_at_once.ensures.no c.if-ends_at_once.false short) ∙ (c.requires.flags a.start).1 r)))))
