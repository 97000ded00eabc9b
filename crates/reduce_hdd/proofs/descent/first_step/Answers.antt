use Rattle.std.proofs.Common.{◌∙◌}
use Rattle.syntax_tree_cut.specs.Cuts.{cut_tree}
use Rattle.reduce_hdd.proofs.Descents.{root_rest}
use Rattle.reduce_hdd.proofs.descent.first_step.Goals as goal

pub returns-clause-rest : goal.returns-clause-rest
returns-clause-rest c = c.in_ok-first.ensures.rest ∙ root_rest c.keeping_all_keeps_tree.ensures c.args.tree.now.form (cut_tree c.args.tree.now c.args.cut.now)
