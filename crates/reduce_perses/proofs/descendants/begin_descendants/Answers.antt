use Rattle.std.proofs.Common.{refl}
use Rattle.syntax_tree.specs.Trees.{PlainTree}
use Rattle.syntax_tree.specs.Numbered.{subtree}
use Rattle.syntax_tree_cut.specs.Cuts.{cut_tree}
use Rattle.descend_replace.proofs.Lent.{decides}
use Rattle.reduce_perses.proofs.NodeFacts.{is_some}
use Rattle.descend_replace.specs.FitsIn.{fits_in}
use Rattle.reduce_perses.specs.inner.Visiting.{AreFound, descendants_at, node_trials}
use Rattle.reduce_perses.proofs.DescendantsLemmas.{are_found, begins_at, same_goes}
use Rattle.reduce_perses.proofs.descendants.begin_descendants.Goals as goal

pub compatible-requires-clause-left : goal.compatible-requires-clause-left
compatible-requires-clause-left c =
    let taken = c.requires.taken in
    is_some (subtree c.args.node (cut_tree c.args.tree.now c.args.cut.now)) (PlainTree.node c.args.node taken.rule taken.alt taken.children) taken.next.node

pub descendant_at-requires-clause-descendants : goal.descendant_at-requires-clause-descendants
descendant_at-requires-clause-descendants c =
    let taken = c.requires.taken in
    are_found c.args.tree.now.form c.args.tree.now.start
    (cut_tree c.args.tree.now c.args.cut.now) c.args.queue.now c.args.node c.in_ok-found.found.items taken c.requires.regular
    (c.in_ok-found.ensures (fits_in c.args.tree.now.form) taken.slot (PlainTree.node c.args.node taken.rule taken.alt taken.children)
    (decides c.args.tree.now.form) taken.next.slot_is taken.next.node)

pub returns-clause-on : goal.returns-clause-on
returns-clause-on c =
    let taken = c.requires.taken in
    let t : PlainTree = cut_tree c.args.tree.now c.args.cut.now in
    let found : AreFound c.args.tree.now.form c.args.tree.now.start t c.args.queue.now c.args.node c.in_ok-found.found.items =
    are_found c.args.tree.now.form c.args.tree.now.start t c.args.queue.now c.args.node c.in_ok-found.found.items taken c.requires.regular
    (c.in_ok-found.ensures (fits_in c.args.tree.now.form) taken.slot (PlainTree.node c.args.node taken.rule taken.alt taken.children)
    (decides c.args.tree.now.form) taken.next.slot_is taken.next.node) in
    same_goes c.args.tree.now.form c.args.tree.now.start t c.descendant_at.new.queue t t
    (descendants_at c.args.tree.now.form c.args.tree.now.start t c.args.queue.now 0 c.args.node)
    (node_trials c.args.tree.now.form c.args.tree.now.start t c.args.queue.now c.args.node) c.descendant_at.result refl
    (begins_at c.args.tree.now.form c.args.tree.now.start t c.args.queue.now c.args.node c.in_ok-found.found.items found) c.descendant_at.ensures.on
