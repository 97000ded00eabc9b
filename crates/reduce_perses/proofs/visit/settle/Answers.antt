use Rattle.std.proofs.Common.{Bool, List, sym, subst}
use Rattle.syntax_tree_cut.specs.Cuts.{CanSelect, cut_tree}
use Rattle.reduce_perses.specs.inner.Visiting.{IsVisit, IsVisiting}
use Rattle.reduce_perses.proofs.ElementsLemmas.{can_keep}
use Rattle.reduce_perses.proofs.visit.settle.Goals as goal

pub keep_elements-requires-clause-can : goal.keep_elements-requires-clause-can
keep_elements-requires-clause-can c =
    let visit =
    subst (IsVisiting c.args.tree.now.form c.args.tree.now.start (cut_tree c.args.tree.now c.args.cut.now) c.requires.queue.0) c.in-Some.is
    c.requires.queue.1 in
    let is = subst (IsVisit c.args.tree.now.form c.args.tree.now.start (cut_tree c.args.tree.now c.args.cut.now) c.requires.queue.0) c.in-Elements.is visit in
    subst (λ (keep : List Bool). CanSelect c.args.tree.now.form (cut_tree c.args.tree.now c.args.cut.now) c.in-Elements.list keep) (sym c.kept.ensures)
    (can_keep c.args.tree.now.form c.args.tree.now.start (cut_tree c.args.tree.now c.args.cut.now) c.requires.queue.0 c.in-Elements.list c.in-Elements.step is)
