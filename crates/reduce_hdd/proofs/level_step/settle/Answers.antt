use Rattle.std.proofs.Common.{length, ap, ◌∙◌}
use Rattle.syntax_tree_cut.specs.Cuts.{cut_tree}
use Rattle.reduce_hdd.proofs.Steps.{settled}
use Rattle.reduce_hdd.proofs.level_step.settle.Goals as goal

pub keep_only-requires-clause-each : goal.keep_only-requires-clause-each
keep_only-requires-clause-each c = ap length c.kept.ensures ∙ c.requires.step.each

pub returns-clause-tree : goal.returns-clause-tree
returns-clause-tree c =
    settled c.args.tree.now.form (cut_tree c.args.tree.now c.args.cut.now) c.args.step.now c.requires.step c.kept.result.now
    (cut_tree c.args.tree.now c.keep_only.new.cut) c.keep_only.result c.kept.ensures c.keep_only.ensures.kept
