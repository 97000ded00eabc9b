use Rattle.reduce_trees_mode.specs.Input.{TreeInput}
use Rattle.reduce_trees_mode.specs.InputOf.{input_of}
use Rattle.spell_shrink.proofs.StepCopies.{copied_agrees, copied_respelling, copied_rest}
use Rattle.spell_shrink.proofs.spell_step.SpellStep+TreeParts+F.copy.Goals as goal

pub returns-clause-respelling : goal.returns-clause-respelling
returns-clause-respelling g c =
    let is = c.in_ok-spelled.ensures in
    copied_respelling c.args.self.now.spelled c.in_ok-spelled.spelled is.kept is.words is.places is.text is.marks

pub returns-clause-rest : goal.returns-clause-rest
returns-clause-rest g c =
    let parts = c.args.self.now.parts.now in
    let input : TreeInput =
    input_of parts.start.grammar parts.formed parts.tree parts.start.bytes parts.tokens.items.items (g.F.Relation.admits parts.guard) parts.squeezes in
    let is = c.in_ok-spelled.ensures in
    let step = c.args.self.now in
    copied_rest step.spelled c.in_ok-spelled.spelled is.kept is.words is.places is.text is.marks input step.words.now step.style step.trial
    c.in_ok-trial.trial c.in_ok-trial.ensures

pub invariant_of-result : goal.invariant_of-result
invariant_of-result g c =
    let is = c.in_ok-spelled.ensures in
    let step = c.args.self.now in
    record {
      agrees =
          copied_agrees step.spelled c.in_ok-spelled.spelled is.kept is.words is.places is.text is.marks _ step.words.now step.style step.trial
          c.in_ok-trial.trial c.in_ok-trial.ensures step.agrees;
    }
