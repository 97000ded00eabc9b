use Rattle.std.proofs.Common.{◌≡◌, ◌+◌, Some, ◌∙◌, refl, ap, rules}
use Rattle.reduce_rounds.specs.Trials.{state_after, trials_after}
use Rattle.reduce_rounds.specs.Verdicts.{is_yes}
use Rattle.reduce_rounds.specs.Reduction.{capped_count}
use Rattle.reduce_rounds.specs.inner.Fields.{plan_of, stage_after}
use Rattle.reduce_rounds.proofs.FieldLemmas.{answered-plan, moved}
use Rattle.reduce_rounds.proofs.rounds.take_answer.Goals as goal

pub returns-clause-becomes : goal.returns-clause-becomes
returns-clause-becomes g c =
    let says : c.eq-yes.result ≡ is_yes (Some c.args.verdict) = search rules in
    let used : c.if-yes.progress.used ≡ capped_count (c.args.progress.now.used + 1) = search rules in
    let rounds : c.if-yes.progress.rounds ≡ c.args.progress.now.rounds = search rules in
    moved g.R.Round.mode g.R.Round.Kept _ _ _ _ _ _ _ _ _
    ((λ i. plan_of (g.R.Round.mode (c.in_ok-answer.ensures.input i)) (c.in_ok-answer.ensures.state i) (c.in_ok-answer.ensures.rest i)
    (c.after_answer.ensures i) c.if-yes.progress)
    ∙ ap (λ b. plan_of (g.R.Round.mode (g.R.Round.input c.args.round.now)) (state_after (g.R.Round.state c.args.round.now) (g.R.Round.rest c.args.round.now) b)
    (trials_after (g.R.Round.rest c.args.round.now) b) (stage_after c.args.stage b) c.if-yes.progress) says
    ∙ answered-plan (g.R.Round.mode (g.R.Round.input c.args.round.now)) (g.R.Round.state c.args.round.now)
    (g.R.Round.rest c.args.round.now) c.args.stage c.args.progress.now c.if-yes.progress c.args.verdict c.requires.trying c.requires.asked used rounds)
    refl refl c.in_ok-next.ensures.becomes
