use Rattle.syntax_tree_cut.specs.Cuts.{cut_tree}
use Rattle.reduce_perses.proofs.NextLemmas.{content_begins}
use Rattle.reduce_perses.proofs.visit.begin_visit.Goals as goal

pub returns-in-Optional-clause-on : goal.returns-in-Optional-clause-on
returns-in-Optional-clause-on c =
    content_begins c.args.tree.now.form c.args.tree.now.start
    (cut_tree c.args.tree.now c.args.cut.now) c.args.node c.shape.result c.shape.ensures c.args.queue.now c.requires.taken c.in-Optional.is
