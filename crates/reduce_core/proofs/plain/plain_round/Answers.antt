use Rattle.std.proofs.Common.{◌<◌, ◌∙◌, ap, sym, subst, true, Bool, List, length, map}
use Rattle.std.specs.Option.{option_copied}
use Rattle.list_ddmin.specs.ListStep.{Outcome, list_step}
use Rattle.list_ddmin.specs.Machine.{HasLength}
use Rattle.reduce_core.specs.inner.Plain.{first_other, is_among, verdict_on}
use Rattle.reduce_core.proofs.PlainLemmas.{answered-next, found-other, missing, missing-asked, whole-step}
use Rattle.reduce_core.proofs.plain.plain_round.Goals as goal

pub add_answer-requires-clause-fits : goal.add_answer-requires-clause-fits
add_answer-requires-clause-fits g c =
    let asked = map (λ v. v.items) c.loop-keep.answers.asked.items in
    let passed = map (λ v. v.items) c.loop-keep.answers.yes.items in
    let lines = c.args.lines.now in
    let shown = c.first_other.ensures
    ∙ (λ i. first_other (map (λ v. v.items) (c.deref.ensures.value i)) (map (λ v. v.items) (c.deref-in-loop-keep.ensures.value i)))
    ∙ ap (λ (o : Outcome). first_other asked o.questions) (c.outcome.view_is ∙ c.loop-keep.invariant.step) in
    (found-other c.questions_fit.ensures.list_step (length lines) asked passed c.in-Some.keep.now (sym shown ∙ ap option_copied c.in-Some.is)).1

pub loop-keep-smaller : goal.loop-keep-smaller
loop-keep-smaller g c =
    let asked = map (λ v. v.items) c.loop-keep.answers.asked.items in
    let passed = map (λ v. v.items) c.loop-keep.answers.yes.items in
    let lines = c.args.lines.now in
    let shown = c.first_other.ensures
    ∙ (λ i. first_other (map (λ v. v.items) (c.deref.ensures.value i)) (map (λ v. v.items) (c.deref-in-loop-keep.ensures.value i)))
    ∙ ap (λ (o : Outcome). first_other asked o.questions) (c.outcome.view_is ∙ c.loop-keep.invariant.step) in
    let found = found-other c.questions_fit.ensures.list_step (length lines) asked passed c.in-Some.keep.now (sym shown ∙ ap option_copied c.in-Some.is) in
    subst (λ keeps. missing (λ keep. is_among keeps keep) (length lines) < missing (λ keep. is_among asked keep) (length lines))
    (sym c.in_ok-add_answer.ensures.asked)
    (missing-asked (length lines) asked c.in-Some.keep.now found.1 found.0)

pub loop-keep-preserved : goal.loop-keep-preserved
loop-keep-preserved g c =
    let asked = map (λ v. v.items) c.loop-keep.answers.asked.items in
    let passed = map (λ v. v.items) c.loop-keep.answers.yes.items in
    let lines = c.args.lines.now in
    let verdict : List Bool → Bool = verdict_on (g.F.Relation.admits c.args.guard.now) (g.T.Test.verdict c.args.test.now) lines in
    record {
      answered = answered-next verdict asked passed
          (map (λ v. v.items) c.add_answer.new.answers.asked.items) (map (λ v. v.items) c.add_answer.new.answers.yes.items) c.in-Some.keep.now
          c.in_ok-add_answer.ensures.asked c.in_ok-add_answer.ensures.yes c.loop-keep.invariant.answered;
      step =
          c.in_ok-outcome-2.ensures ∙ ap (λ n. list_step (λ keep. is_among (map (λ v. v.items) c.add_answer.new.answers.yes.items) keep) n true)
          c.loop-keep.invariant.len;
      len = c.loop-keep.invariant.len;
    }

pub returns-clause-round : goal.returns-clause-round
returns-clause-round g c =
    let asked = map (λ v. v.items) c.loop-keep.answers.asked.items in
    let passed = map (λ v. v.items) c.loop-keep.answers.yes.items in
    let lines = c.args.lines.now in
    let shown = c.first_other.ensures
    ∙ (λ i. first_other (map (λ v. v.items) (c.deref.ensures.value i)) (map (λ v. v.items) (c.deref-in-loop-keep.ensures.value i)))
    ∙ ap (λ (o : Outcome). first_other asked o.questions) (c.outcome.view_is ∙ c.loop-keep.invariant.step) in
    c.loop-keep.invariant.step
    ∙ whole-step c.agreeing_maps.ensures (verdict_on (g.F.Relation.admits c.args.guard.now) (g.T.Test.verdict c.args.test.now) lines)
    (length lines) asked passed c.loop-keep.invariant.answered
    (sym shown ∙ ap option_copied c.in_default.is)

pub returns-clause-fits : goal.returns-clause-fits
returns-clause-fits g c =
    subst (λ (o : Outcome). HasLength (length c.args.lines.now) o) (sym c.loop-keep.invariant.step)
    (c.questions_fit.ensures.list_step (λ keep. is_among (map (λ v. v.items) c.loop-keep.answers.yes.items) keep) (length c.args.lines.now) true)
