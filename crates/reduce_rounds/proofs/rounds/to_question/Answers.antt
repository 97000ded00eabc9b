use Rattle.std.proofs.Common.{◌≡◌, ◌+◌, ◌∙◌, true, false, refl, sym, ap, rules}
use Rattle.reduce_rounds.specs.Trials.{Done}
use Rattle.reduce_rounds.specs.RoundsPlan.{plan_rounds, plan_next}
use Rattle.reduce_rounds.specs.Reduction.{capped_count}
use Rattle.reduce_rounds.specs.declared.stage.Progress.{Progress}
use Rattle.reduce_rounds.specs.inner.Fields.{HasState, plan_of}
use Rattle.reduce_rounds.proofs.FieldLemmas.{passed-asking, opening-over, round-over, round-ends, done-is}
use Rattle.reduce_rounds.proofs.FieldLemmas.{moved, moved-kept, moved-state, moved-went, went-nowhere, went-on}
use Rattle.reduce_rounds.proofs.rounds.to_question.Goals as goal

pub returns-then-not-is_over-clause-becomes : goal.returns-then-not-is_over-clause-becomes
returns-then-not-is_over-clause-becomes g c =
    moved g.R.Round.mode g.R.Round.Kept _ _ _ _ _ _ _ _ _ refl c.in_ok-pass.ensures.input c.in_ok-pass.ensures.state
    (passed-asking (g.R.Round.mode (g.R.Round.input c.args.round.now)) (g.R.Round.Kept (g.R.Round.input c.args.round.now)) (g.R.Round.state c.args.round.now)
    (g.R.Round.rest c.args.round.now) (g.R.Round.rest c.pass.new.round) c.args.stage c.args.progress.now
    c.requires.trying c.requires.kept c.in_ok-pass.ensures.rest (sym c.is_over.ensures ∙ search rules) c.requires.state)

pub returns-in_ok-next-in-Opening-clause-becomes : goal.returns-in_ok-next-in-Opening-clause-becomes
returns-in_ok-next-in-Opening-clause-becomes g c =
    moved g.R.Round.mode g.R.Round.Kept _ _ _ _ _ _ _ _ _
    ((λ i. plan_rounds (g.R.Round.mode (c.in_ok-pass.ensures.input i)) c.args.progress.now.rounds c.args.progress.now.used (c.in_ok-pass.ensures.state i))
    ∙ opening-over (g.R.Round.mode (g.R.Round.input c.args.round.now)) (g.R.Round.state c.args.round.now) (g.R.Round.rest c.args.round.now)
    (g.R.Round.rest c.pass.new.round) c.args.progress.now
    c.in_ok-pass.ensures.rest (done-is (g.R.Round.mode (g.R.Round.input c.args.round.now)) _ (sym c.is_over.ensures ∙ search rules))
    ∙ ap (λ s. plan_of (g.R.Round.mode (g.R.Round.input c.args.round.now)) (g.R.Round.state c.args.round.now)
    (g.R.Round.rest c.args.round.now) s c.args.progress.now) (sym c.in-Opening.is))
    refl refl c.in_ok-next-in-Opening.ensures.begun

-- another round begins with a state that is kept and has the text and the units of the last yes
pub begin-requires-then-more-clause-state : goal.begin-requires-then-more-clause-state
begin-requires-then-more-clause-state g c =
    let after = c.in_ok-more-in-Within in
    let input = g.R.Round.input c.pass.new.round in
    let mode = g.R.Round.mode input in
    let state = g.R.Round.state c.pass.new.round in
    let new = g.R.Round.state c.goes_on.new.round in
    let progress : Progress = record c.args.progress.now { rounds = c.saturating_add-progress.result } in
    let before = moved-state g.R.Round.mode _ _ _ _ c.args.progress.now c.in_ok-pass.ensures.input c.in_ok-pass.ensures.state c.requires.state in
    let has : HasState mode state progress = record { text = before.text; units = before.units; refused = before.refused } in
    let on = went-on mode (g.R.Round.Kept input) state new (g.R.Round.rest c.args.round.now) c.in-Within.changed progress c.args.progress.now.rounds
    c.args.progress.now.used (c.phases_agree.ensures input)
    (moved-kept g.R.Round.mode g.R.Round.Kept _ _ _ _ (g.R.Round.rest c.args.round.now) (g.R.Round.rest c.args.round.now) c.in_ok-pass.ensures.input
    c.in_ok-pass.ensures.state refl c.requires.kept) has
    (moved-went g.R.Round.mode input input state state new c.in-Within.changed after.more true refl refl (search rules) after.ensures.state) in
    moved-state g.R.Round.mode input (g.R.Round.input c.goes_on.new.round) new new progress after.ensures.input refl on.0

pub begin-requires-then-more-clause-kept : goal.begin-requires-then-more-clause-kept
begin-requires-then-more-clause-kept g c =
    let after = c.in_ok-more-in-Within in
    let input = g.R.Round.input c.pass.new.round in
    let mode = g.R.Round.mode input in
    let state = g.R.Round.state c.pass.new.round in
    let new = g.R.Round.state c.goes_on.new.round in
    let has = moved-state g.R.Round.mode _ _ _ _ c.args.progress.now c.in_ok-pass.ensures.input c.in_ok-pass.ensures.state c.requires.state in
    let on = went-on mode (g.R.Round.Kept input) state new (g.R.Round.rest c.args.round.now) c.in-Within.changed c.args.progress.now
    c.args.progress.now.rounds c.args.progress.now.used (c.phases_agree.ensures input)
    (moved-kept g.R.Round.mode g.R.Round.Kept _ _ _ _ (g.R.Round.rest c.args.round.now) (g.R.Round.rest c.args.round.now) c.in_ok-pass.ensures.input
    c.in_ok-pass.ensures.state refl c.requires.kept) has
    (moved-went g.R.Round.mode input input state state new c.in-Within.changed after.more true refl refl (search rules) after.ensures.state) in
    moved-kept g.R.Round.mode g.R.Round.Kept input (g.R.Round.input c.goes_on.new.round) new new Done (g.R.Round.rest c.goes_on.new.round)
    after.ensures.input refl after.ensures.rest on.1

pub returns-in_ok-next-in-Within-clause-becomes : goal.returns-in_ok-next-in-Within-clause-becomes
returns-in_ok-next-in-Within-clause-becomes g c =
    let after = c.in_ok-more-in-Within in
    let first = g.R.Round.input c.args.round.now in
    let input = g.R.Round.input c.pass.new.round in
    let mode = g.R.Round.mode input in
    let state = g.R.Round.state c.pass.new.round in
    let new = g.R.Round.state c.goes_on.new.round in
    let rounds = c.args.progress.now.rounds in
    let used = c.args.progress.now.used in
    let has = moved-state g.R.Round.mode _ _ _ _ c.args.progress.now c.in_ok-pass.ensures.input c.in_ok-pass.ensures.state c.requires.state in
    let on = went-on mode (g.R.Round.Kept input) state new (g.R.Round.rest c.args.round.now) c.in-Within.changed c.args.progress.now rounds used
    (c.phases_agree.ensures input)
    (moved-kept g.R.Round.mode g.R.Round.Kept _ _ _ _ (g.R.Round.rest c.args.round.now) (g.R.Round.rest c.args.round.now) c.in_ok-pass.ensures.input
    c.in_ok-pass.ensures.state refl c.requires.kept) has
    (moved-went g.R.Round.mode input input state state new c.in-Within.changed after.more true refl refl (search rules) after.ensures.state) in
    let more : c.saturating_add-progress.result ≡ capped_count (rounds + 1) = search rules in
    moved g.R.Round.mode g.R.Round.Kept _ _ _ _ _ _ _ _ _
    ((λ i. plan_rounds (g.R.Round.mode (after.ensures.input i)) (more i) used new)
    ∙ on.2
    ∙ (λ i. plan_next (g.R.Round.mode (c.in_ok-pass.ensures.input i)) (plan_rounds (g.R.Round.mode (c.in_ok-pass.ensures.input i))) rounds
    (c.in_ok-pass.ensures.state i) c.in-Within.changed used)
    ∙ round-over (g.R.Round.mode first) (g.R.Round.state c.args.round.now) (g.R.Round.rest c.args.round.now) (g.R.Round.rest c.pass.new.round)
    c.in-Within.changed rounds used c.in_ok-pass.ensures.rest (done-is (g.R.Round.mode first) _ (sym c.is_over.ensures ∙ search rules))
    ∙ ap (λ s. plan_of (g.R.Round.mode first) (g.R.Round.state c.args.round.now) (g.R.Round.rest c.args.round.now) s c.args.progress.now)
    (sym c.in-Within.is))
    refl refl c.in_ok-next-in-Within.ensures.begun

pub returns-else-more-clause-becomes : goal.returns-else-more-clause-becomes
returns-else-more-clause-becomes g c =
    let after = c.in_ok-more-in-Within in
    let first = g.R.Round.input c.args.round.now in
    let mode = g.R.Round.mode first in
    let state = g.R.Round.state c.args.round.now in
    let new = g.R.Round.state c.goes_on.new.round in
    let last = went-nowhere mode state new c.in-Within.changed
    (moved-went g.R.Round.mode first (g.R.Round.input c.pass.new.round) state (g.R.Round.state c.pass.new.round) new c.in-Within.changed after.more false
    c.in_ok-pass.ensures.input c.in_ok-pass.ensures.state (search rules) after.ensures.state) in
    let over : g.R.Round.rest c.pass.new.round ≡ Done = done-is mode _ (sym c.is_over.ensures ∙ search rules) in
    let more : c.saturating_add-progress.result ≡ capped_count (c.args.progress.now.rounds + 1) = search rules in
    moved g.R.Round.mode g.R.Round.Kept _ _ _ _ _ _ _ _ _
    (ap (λ s. plan_of mode state (g.R.Round.rest c.args.round.now) s c.args.progress.now) (sym c.in-Within.is))
    (after.ensures.input ∙ c.in_ok-pass.ensures.input) last.1.1
    (round-ends mode (g.R.Round.Kept first) state (g.R.Round.rest c.args.round.now) (g.R.Round.rest c.goes_on.new.round) c.in-Within.changed
    c.args.progress.now c.saturating_add-progress.result (after.ensures.rest ∙ sym over ∙ c.in_ok-pass.ensures.rest) after.ensures.rest last.0
    last.1.0 more c.requires.state)
