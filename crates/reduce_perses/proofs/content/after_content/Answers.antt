use Rattle.std.proofs.Common.{refl}
use Rattle.syntax_tree.specs.Trees.{PlainTree}
use Rattle.syntax_tree.specs.Numbered.{subtree}
use Rattle.syntax_tree_cut.specs.Cuts.{cut_tree}
use Rattle.reduce_perses.proofs.NodeFacts.{is_some}
use Rattle.reduce_perses.proofs.ContentLemmas.{can_empty, content, goes_on_with, goes_on_without}
use Rattle.reduce_perses.proofs.content.after_content.Goals as goal

pub delete_optional-requires-clause-can : goal.delete_optional-requires-clause-can
delete_optional-requires-clause-can c =
    can_empty c.args.tree.now.form c.args.tree.now.start (cut_tree c.args.tree.now c.args.cut.now) c.args.queue.now c.args.node c.requires.visit

pub queue_children-requires-clause-left : goal.queue_children-requires-clause-left
queue_children-requires-clause-left c =
    let visit = c.requires.visit in
    is_some (subtree c.args.node (cut_tree c.args.tree.now c.args.cut.now))
    (PlainTree.node c.args.node visit.rule visit.alt
    (content c.args.tree.now.form c.args.tree.now.start (cut_tree c.args.tree.now c.args.cut.now) c.args.queue.now c.args.node visit)) visit.next.node

pub returns-then-yes-clause-on : goal.returns-then-yes-clause-on
returns-then-yes-clause-on c =
    let t : PlainTree = cut_tree c.args.tree.now c.args.cut.now in
    let visit = c.requires.visit in
    goes_on_without c.args.tree.now.form c.args.tree.now.start t c.args.queue.now c.args.node visit c.args.yes c.if-yes.true
    (cut_tree c.args.tree.now c.delete_optional.new.self) c.args.queue.now
    (c.delete_optional.ensures.tree visit.rule visit.alt
    (content c.args.tree.now.form c.args.tree.now.start t c.args.queue.now c.args.node visit) visit.next.node) refl

pub returns-clause-on : goal.returns-clause-on
returns-clause-on c =
    let t : PlainTree = cut_tree c.args.tree.now c.args.cut.now in
    let visit = c.requires.visit in
    let waits =
    c.in_ok-queue_children.ensures (PlainTree.node c.args.node visit.rule visit.alt
    (content c.args.tree.now.form c.args.tree.now.start t c.args.queue.now c.args.node visit)) visit.next.node in
    goes_on_with c.args.tree.now.form c.args.tree.now.start t c.args.queue.now c.args.node visit c.args.yes c.if-yes.false c.queue_children.new.queue waits
