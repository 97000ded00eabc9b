use Rattle.std.proofs.Common.{◌≤◌, length, arith}
use Rattle.syntax_tree.specs.Trees.{PlainTree}
use Rattle.syntax_tree_cut.specs.Cuts.{cut_tree}
use Rattle.reduce_perses.proofs.DescendantsLemmas.{fewer_at_end, goes_on_at_end}
use Rattle.reduce_perses.proofs.descendants.descendant_at.Goals as goal

pub returns-clause-on : goal.returns-clause-on
returns-clause-on c =
    let t : PlainTree = cut_tree c.args.tree.now c.args.cut.now in
    let are = c.requires.descendants in
    let over : length c.args.found.items ≤ c.args.at = omega arith in
    let waits = c.in_ok-queue_children.ensures (PlainTree.node c.args.node are.rule are.alt are.children) are.next.node in
    goes_on_at_end c.args.tree.now.form c.args.tree.now.start t c.args.queue.now c.args.node c.args.found.items are c.args.at over c.queue_children.new.queue
    waits

pub returns-clause-fewer : goal.returns-clause-fewer
returns-clause-fewer c =
    let t : PlainTree = cut_tree c.args.tree.now c.args.cut.now in
    let are = c.requires.descendants in
    let over : length c.args.found.items ≤ c.args.at = omega arith in
    let waits = c.in_ok-queue_children.ensures (PlainTree.node c.args.node are.rule are.alt are.children) are.next.node in
    fewer_at_end c.args.tree.now.form c.args.tree.now.start t c.args.queue.now c.args.node c.args.found.items are c.args.at over c.queue_children.new.queue
    waits
