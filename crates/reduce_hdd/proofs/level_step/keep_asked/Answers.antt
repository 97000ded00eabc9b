use Rattle.syntax_tree_cut.specs.Cuts.{cut_tree}
use Rattle.reduce_hdd.proofs.Steps.{asked_each, asked_tree}
use Rattle.reduce_hdd.proofs.level_step.keep_asked.Goals as goal

pub keep_only-requires-clause-each : goal.keep_only-requires-clause-each
keep_only-requires-clause-each c =
    asked_each c.args.tree.now.form (cut_tree c.args.tree.now c.args.cut.now) c.args.step.now c.requires.step c.in-Some.keep.now c.in-Some.ensures.question

pub returns-clause-tried : goal.returns-clause-tried
returns-clause-tried c =
    asked_tree c.args.tree.now.form (cut_tree c.args.tree.now c.args.cut.now) c.args.step.now c.requires.step c.in-Some.keep.now c.in-Some.ensures.question
    (cut_tree c.args.tree.now c.keep_only.new.cut) c.keep_only.result c.keep_only.ensures.kept
