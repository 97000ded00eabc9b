use Rattle.std.proofs.Common.{suc, sym, ap, ◌∙◌, length, subst}
use Rattle.std.specs.Prelude.{is_some}
use Rattle.list_ddmin.specs.Machine.{IsSound, State, kept}
use Rattle.syntax_tree.specs.Trees.{PlainTree}
use Rattle.syntax_tree_cut.specs.Cuts.{cut_tree}
use Rattle.descend_replace.proofs.Lent.{cut_rises}
use Rattle.hdd_levels.specs.LevelForms.{parents_at}
use Rattle.reduce_hdd.specs.inner.Passing.{HasPassed}
use Rattle.reduce_hdd.specs.inner.Walking.{levels_below}
use Rattle.reduce_hdd.proofs.Steps.{asking_step, each_after, left_then, levels_then, parents_after, sound_after, step_after, trials_then}
use Rattle.reduce_hdd.proofs.descent.after_answer.Goals as goal

pub answer-requires : goal.answer-requires
answer-requires c = ap is_some c.requires.step.asking.asked

pub pass_refused-requires-clause-sound : goal.pass_refused-requires-clause-sound
pass_refused-requires-clause-sound c =
    subst IsSound (sym c.answer.ensures) (sound_after c.args.tree.now.form (cut_tree c.args.tree.now c.args.cut.now) c.args.step c.requires.step c.args.yes)

pub pass_refused-requires-clause-each : goal.pass_refused-requires-clause-each
pass_refused-requires-clause-each c =
    ap (λ (s : State). length (kept s)) c.answer.ensures
    ∙ each_after c.args.tree.now.form (cut_tree c.args.tree.now c.args.cut.now) c.args.step c.requires.step c.args.yes

pub returns-then-pass_refused-clause-rest : goal.returns-then-pass_refused-clause-rest
returns-then-pass_refused-clause-rest c =
    let t : PlainTree = cut_tree c.args.tree.now c.args.cut.now in
    trials_then c.args.tree.now.form t c.args.step c.requires.step c.args.yes c.pass_refused.new.step c.pass_refused.result
    (subst (λ (s : State). HasPassed c.args.tree.now.form t c.args.step.level.nodes s c.pass_refused.new.step c.pass_refused.result) c.answer.ensures
    c.pass_refused.ensures)

pub returns-then-pass_refused-clause-left : goal.returns-then-pass_refused-clause-left
returns-then-pass_refused-clause-left c =
    let t : PlainTree = cut_tree c.args.tree.now c.args.cut.now in
    left_then c.args.tree.now.form t c.args.step c.requires.step c.args.yes c.pass_refused.new.step c.pass_refused.result
    (subst (λ (s : State). HasPassed c.args.tree.now.form t c.args.step.level.nodes s c.pass_refused.new.step c.pass_refused.result)
    c.answer.ensures c.pass_refused.ensures)

pub returns-then-pass_refused-clause-walking : goal.returns-then-pass_refused-clause-walking
returns-then-pass_refused-clause-walking c =
    let t : PlainTree = cut_tree c.args.tree.now c.args.cut.now in
    asking_step c.args.tree.now.form t c.args.step c.requires.step c.args.yes c.pass_refused.new.step c.pass_refused.result
    (subst (λ (s : State). HasPassed c.args.tree.now.form t c.args.step.level.nodes s c.pass_refused.new.step c.pass_refused.result) c.answer.ensures
    c.pass_refused.ensures) c.if-pass_refused.true

pub settle-requires-clause-step : goal.settle-requires-clause-step
settle-requires-clause-step c =
    let t : PlainTree = cut_tree c.args.tree.now c.args.cut.now in
    step_after c.args.tree.now.form t c.args.step c.requires.step c.args.yes c.pass_refused.new.step c.pass_refused.result
    (subst (λ (s : State). HasPassed c.args.tree.now.form t c.args.step.level.nodes s c.pass_refused.new.step
    c.pass_refused.result) c.answer.ensures c.pass_refused.ensures)

pub descend-requires-clause-above : goal.descend-requires-clause-above
descend-requires-clause-above c =
    let t : PlainTree = cut_tree c.args.tree.now c.args.cut.now in
    parents_after c.args.tree.now.form t (record c.args.step { step = c.pass_refused.new.step }) c.higher_nodes_stay.ensures
    (cut_rises c.args.tree.now c.nodes-nodes.ensures.whole c.args.cut.now c.requires.of)
    (step_after c.args.tree.now.form t c.args.step c.requires.step c.args.yes c.pass_refused.new.step c.pass_refused.result
    (subst (λ (s : State). HasPassed c.args.tree.now.form t c.args.step.level.nodes s c.pass_refused.new.step c.pass_refused.result) c.answer.ensures
    c.pass_refused.ensures))
    ∙ ap (parents_at c.args.step.depth) (sym c.settle.ensures.tree)

pub returns-clause-rest : goal.returns-clause-rest
returns-clause-rest c =
    let t : PlainTree = cut_tree c.args.tree.now c.args.cut.now in
    c.in_ok-next.ensures.rest
    ∙ ap (levels_below c.args.tree.now.form (suc c.args.step.depth)) c.settle.ensures.tree
    ∙ levels_then c.args.tree.now.form t c.args.step c.requires.step c.args.yes c.pass_refused.new.step c.pass_refused.result
    (subst (λ (s : State). HasPassed c.args.tree.now.form t c.args.step.level.nodes s c.pass_refused.new.step c.pass_refused.result) c.answer.ensures
    c.pass_refused.ensures) c.if-pass_refused.false

pub returns-clause-left : goal.returns-clause-left
returns-clause-left c =
    let t : PlainTree = cut_tree c.args.tree.now c.args.cut.now in
    c.in_ok-next.ensures.left
    ∙ c.settle.ensures.tree
    ∙ left_then c.args.tree.now.form t c.args.step c.requires.step c.args.yes c.pass_refused.new.step c.pass_refused.result
    (subst (λ (s : State). HasPassed c.args.tree.now.form t c.args.step.level.nodes s
    c.pass_refused.new.step c.pass_refused.result) c.answer.ensures c.pass_refused.ensures)
