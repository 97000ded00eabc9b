use Rattle.std.proofs.Common.{◌<◌, sym, ◌∙◌, subst}
use Rattle.list_ddmin.specs.Machine.{State, left}
use Rattle.syntax_tree_cut.specs.Cuts.{cut_tree}
use Rattle.reduce_hdd.specs.inner.Passing.{IsPassing}
use Rattle.reduce_hdd.proofs.Passed.{all_passed, nothing_passed, passing_length, refused_asks, refused_fewer, refused_passed}
use Rattle.reduce_hdd.proofs.level_step.pass_refused.Goals as goal

pub question-init : goal.question-init
question-init c = nothing_passed c.args.tree.now.form (cut_tree c.args.tree.now c.args.cut.now) c.args.level.now.nodes c.args.step.now c.requires.sound

pub is_refused-requires-clause-each : goal.is_refused-requires-clause-each
is_refused-requires-clause-each c =
    passing_length c.args.tree.now.form (cut_tree c.args.tree.now c.args.cut.now) c.args.level.now.nodes c.args.step.now c.question.step c.question.invariant
    c.requires.each

pub answer-requires : goal.answer-requires
answer-requires c =
    refused_asks c.args.tree.now.form (cut_tree c.args.tree.now c.args.cut.now) c.args.level.now.nodes c.question.step
    (sym c.is_refused.ensures ∙ c.question-test.true)

pub question-preserved : goal.question-preserved
question-preserved c =
    subst (λ (s : State). IsPassing c.args.tree.now.form (cut_tree c.args.tree.now c.args.cut.now) c.args.level.now.nodes c.args.step.now s)
    (sym c.answer.ensures)
    (refused_passed c.args.tree.now.form (cut_tree c.args.tree.now c.args.cut.now) c.args.level.now.nodes c.args.step.now c.question.step c.question.invariant
    (sym c.is_refused.ensures ∙ c.question-test.true))

pub question-smaller : goal.question-smaller
question-smaller c =
    subst (λ (s : State). left s < left c.question.step) (sym c.answer.ensures)
    (refused_fewer c.args.tree.now.form (cut_tree c.args.tree.now c.args.cut.now) c.args.level.now.nodes c.args.step.now c.question.step c.question.invariant
    (sym c.is_refused.ensures ∙ c.question-test.true))

pub returns : goal.returns
returns c =
    all_passed c.args.tree.now.form (cut_tree c.args.tree.now c.args.cut.now) c.args.level.now.nodes c.args.step.now c.question.step c.asks.result
    c.is_some.result c.question.invariant (sym c.is_refused.ensures ∙ c.question-test.false) c.asks.ensures.question
    c.is_some.ensures
