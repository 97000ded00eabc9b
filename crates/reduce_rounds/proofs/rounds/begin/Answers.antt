use Rattle.std.proofs.Common.{◌≡◌, ◌+◌, ◌∙◌, true, false, refl, sym, ap, rules, subst}
use Rattle.reduce_rounds.specs.Trials.{Done, is_done}
use Rattle.reduce_rounds.specs.Mode.{IsLawful}
use Rattle.reduce_rounds.specs.Fields.{WentOn}
use Rattle.reduce_rounds.specs.Reduction.{capped_count}
use Rattle.reduce_rounds.specs.RoundsPlan.{plan_rounds}
use Rattle.reduce_rounds.specs.inner.Fields.{HasState, StaysKept, listed_trials}
use Rattle.reduce_rounds.proofs.FieldLemmas.{begun-asking, begun-next, begun-over, done-is, moved, moved-went, phase-smaller, went-nowhere}
use Rattle.reduce_rounds.proofs.rounds.begin.Goals as goal

pub loop-round-init : goal.loop-round-init
loop-round-init g c = record {
  input = refl;
  over = c.requires.over;
  state = c.requires.state;
  kept = subst (StaysKept (g.R.Round.mode (g.R.Round.input c.args.round.now)) (g.R.Round.Kept (g.R.Round.input c.args.round.now))
      (g.R.Round.state c.args.round.now)) c.requires.over c.requires.kept;
  same = refl;
  text = refl;
}

-- a round that asks: the fields after passing
pub returns-then-not-is_over-clause-begun : goal.returns-then-not-is_over-clause-begun
returns-then-not-is_over-clause-begun g c =
    let first = g.R.Round.input c.args.round.now in
    let mode = g.R.Round.mode first in
    let before = c.loop-round.invariant in
    let state = g.R.Round.state c.loop-round.round in
    let lawful : IsLawful mode (g.R.Round.Kept first) =
    subst (λ i. IsLawful (g.R.Round.mode i) (g.R.Round.Kept i)) before.input c.in_ok-begin_round.ensures.lawful in
    let rest_is : g.R.Round.rest c.pass.new.round ≡ listed_trials mode (mode.round state) =
    c.in_ok-pass.ensures.rest ∙ (λ i. listed_trials (g.R.Round.mode (c.in_ok-begin_round.ensures.input i)) (c.in_ok-begin_round.ensures.rest i))
    ∙ (λ i. listed_trials (g.R.Round.mode (before.input i)) ((g.R.Round.mode (before.input i)).round state)) in
    let open_ : c.is_over.result ≡ false = search rules in
    moved g.R.Round.mode g.R.Round.Kept _ _ _ _ _ _ _ _ _ before.same
    (c.in_ok-pass.ensures.input ∙ c.in_ok-begin_round.ensures.input ∙ before.input) (c.in_ok-pass.ensures.state ∙ c.in_ok-begin_round.ensures.state)
    (begun-asking mode (g.R.Round.Kept first) lawful state Done (g.R.Round.rest c.pass.new.round) c.loop-round.progress before.kept rest_is
    (sym c.is_over.ensures ∙ open_) before.state)

-- a round that asks nothing, in the last phase
pub returns-then-not-more-clause-begun : goal.returns-then-not-more-clause-begun
returns-then-not-more-clause-begun g c =
    let first = g.R.Round.input c.args.round.now in
    let mode = g.R.Round.mode first in
    let before = c.loop-round.invariant in
    let progress = c.loop-round.progress in
    let state = g.R.Round.state c.loop-round.round in
    let new = g.R.Round.state c.next_phase.new.self in
    let lawful : IsLawful mode (g.R.Round.Kept first) =
    subst (λ i. IsLawful (g.R.Round.mode i) (g.R.Round.Kept i)) before.input c.in_ok-begin_round.ensures.lawful in
    let input = c.in_ok-pass.ensures.input ∙ c.in_ok-begin_round.ensures.input ∙ before.input in
    let rest_is : g.R.Round.rest c.pass.new.round ≡ listed_trials mode (mode.round state) =
    c.in_ok-pass.ensures.rest ∙ (λ i. listed_trials (g.R.Round.mode (c.in_ok-begin_round.ensures.input i)) (c.in_ok-begin_round.ensures.rest i))
    ∙ (λ i. listed_trials (g.R.Round.mode (before.input i)) ((g.R.Round.mode (before.input i)).round state)) in
    let closed : c.is_over.result ≡ true = search rules in
    let last = went-nowhere mode state new false (moved-went g.R.Round.mode _ _ _ _ new false c.in_ok-more.more false input
    (c.in_ok-pass.ensures.state ∙ c.in_ok-begin_round.ensures.state) (search rules) c.in_ok-more.ensures.state) in
    let over : g.R.Round.rest c.pass.new.round ≡ Done = done-is mode _ (sym c.is_over.ensures ∙ closed) in
    let rounds : c.saturating_add-progress.result ≡ capped_count (progress.rounds + 1) = search rules in
    moved g.R.Round.mode g.R.Round.Kept _ _ _ _ _ _ _ _ _ before.same (c.in_ok-more.ensures.input ∙ input) last.1.1
    (begun-over mode (g.R.Round.Kept first) lawful state Done (g.R.Round.rest c.next_phase.new.self) progress
    (record progress { rounds = c.saturating_add-progress.result }) before.kept (c.in_ok-more.ensures.rest ∙ sym over ∙ rest_is)
    (ap is_done c.in_ok-more.ensures.rest) last.1.0
    (record { text = before.state.text; units = before.state.units; refused = before.state.refused }) refl rounds)

-- and else the next phase goes on
pub loop-round-preserved : goal.loop-round-preserved
loop-round-preserved g c =
    let first = g.R.Round.input c.args.round.now in
    let mode = g.R.Round.mode first in
    let before = c.loop-round.invariant in
    let progress = c.loop-round.progress in
    let state = g.R.Round.state c.loop-round.round in
    let new = g.R.Round.state c.next_phase.new.self in
    let lawful : IsLawful mode (g.R.Round.Kept first) =
    subst (λ i. IsLawful (g.R.Round.mode i) (g.R.Round.Kept i)) before.input c.in_ok-begin_round.ensures.lawful in
    let input = c.in_ok-pass.ensures.input ∙ c.in_ok-begin_round.ensures.input ∙ before.input in
    let rest_is : g.R.Round.rest c.pass.new.round ≡ listed_trials mode (mode.round state) =
    c.in_ok-pass.ensures.rest ∙ (λ i. listed_trials (g.R.Round.mode (c.in_ok-begin_round.ensures.input i)) (c.in_ok-begin_round.ensures.rest i))
    ∙ (λ i. listed_trials (g.R.Round.mode (before.input i)) ((g.R.Round.mode (before.input i)).round state)) in
    let closed : c.is_over.result ≡ true = search rules in
    let went : WentOn (mode.next_phase state) state new true =
    moved-went g.R.Round.mode _ _ _ _ new false c.in_ok-more.more true input (c.in_ok-pass.ensures.state ∙ c.in_ok-begin_round.ensures.state)
    (search rules) c.in_ok-more.ensures.state in
    let rounds : c.saturating_add-progress.result ≡ capped_count (progress.rounds + 1) = search rules in
    let has : HasState mode state (record progress { rounds = c.saturating_add-progress.result }) =
    record { text = before.state.text; units = before.state.units; refused = before.state.refused } in
    let on = begun-next mode (g.R.Round.Kept first) lawful progress.rounds progress.used state new Done (g.R.Round.rest c.pass.new.round)
    (record progress { rounds = c.saturating_add-progress.result }) (c.phases_agree.ensures first) before.kept has rest_is (sym c.is_over.ensures ∙ closed)
    went in
    record {
      input = c.in_ok-more.ensures.input ∙ input;
      over = c.in_ok-more.ensures.rest;
      state = on.0;
      kept = on.1;
      same = ap (λ n. plan_rounds mode n progress.used new) rounds ∙ on.2 ∙ before.same;
      text = before.text;
    }

pub loop-round-smaller : goal.loop-round-smaller
loop-round-smaller g c =
    let first = g.R.Round.input c.args.round.now in
    let mode = g.R.Round.mode first in
    let before = c.loop-round.invariant in
    let state = g.R.Round.state c.loop-round.round in
    let new = g.R.Round.state c.next_phase.new.self in
    let lawful : IsLawful mode (g.R.Round.Kept first) =
    subst (λ i. IsLawful (g.R.Round.mode i) (g.R.Round.Kept i)) before.input c.in_ok-begin_round.ensures.lawful in
    let input = c.in_ok-pass.ensures.input ∙ c.in_ok-begin_round.ensures.input ∙ before.input in
    phase-smaller mode (g.R.Round.Kept first) lawful state new Done before.kept
    (moved-went g.R.Round.mode _ _ _ _ new false c.in_ok-more.more true input (c.in_ok-pass.ensures.state ∙ c.in_ok-begin_round.ensures.state)
    (search rules) c.in_ok-more.ensures.state)
