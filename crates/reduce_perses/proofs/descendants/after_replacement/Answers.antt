use Rattle.std.proofs.Common.{ap, ◌∙◌}
use Rattle.syntax_tree.specs.Trees.{PlainTree}
use Rattle.syntax_tree.specs.Numbered.{subtree}
use Rattle.syntax_tree_cut.specs.Cuts.{cut_tree}
use Rattle.reduce_perses.proofs.NodeFacts.{is_some}
use Rattle.reduce_perses.proofs.DescendantsLemmas.{can_replace, found_at, goes_on_at_yes, stays_found, tree_at}
use Rattle.reduce_perses.proofs.descendants.after_replacement.Goals as goal

pub replace-requires-clause-can : goal.replace-requires-clause-can
replace-requires-clause-can c =
    can_replace c.args.tree.now.form c.args.tree.now.start
    (cut_tree c.args.tree.now c.args.cut.now) c.args.queue.now c.args.node c.args.found.items c.requires.visit.are_found c.args.at c.requires.visit.within
    c.index-by.result.now c.index-by.result.now c.index-by.ensures

pub push_if_waiting-requires-clause-left : goal.push_if_waiting-requires-clause-left
push_if_waiting-requires-clause-left c =
    let t : PlainTree = cut_tree c.args.tree.now c.args.cut.now in
    let u = tree_at c.args.tree.now.form c.args.tree.now.start t c.args.queue.now c.args.node c.args.found.items c.requires.visit.are_found c.args.at in
    let found =
    found_at c.args.tree.now.form c.args.tree.now.start t c.args.queue.now c.args.node c.args.found.items c.requires.visit.are_found c.args.at
    c.requires.visit.within c.index-by.result.now c.index-by.result.now c.index-by.ensures in
    let stays =
    stays_found c.args.tree.now.form c.args.tree.now.start t c.args.queue.now c.args.node c.args.found.items c.requires.visit.are_found c.args.at
    c.requires.visit.within c.index-by.result.now c.index-by.result.now c.index-by.ensures in
    is_some (subtree c.index-by.result.now (cut_tree c.args.tree.now c.replace.new.self)) u
    (ap (subtree c.index-by.result.now) (c.replace.ensures.tree u found) ∙ stays)

pub returns-clause-on : goal.returns-clause-on
returns-clause-on c =
    let t : PlainTree = cut_tree c.args.tree.now c.args.cut.now in
    let u = tree_at c.args.tree.now.form c.args.tree.now.start t c.args.queue.now c.args.node c.args.found.items c.requires.visit.are_found c.args.at in
    let found = found_at c.args.tree.now.form c.args.tree.now.start t c.args.queue.now c.args.node c.args.found.items c.requires.visit.are_found c.args.at
    c.requires.visit.within c.index-by.result.now c.index-by.result.now c.index-by.ensures in
    let stays = stays_found c.args.tree.now.form c.args.tree.now.start t c.args.queue.now c.args.node c.args.found.items c.requires.visit.are_found c.args.at
    c.requires.visit.within c.index-by.result.now c.index-by.result.now c.index-by.ensures in
    let tree = c.replace.ensures.tree u found in
    goes_on_at_yes c.args.tree.now.form c.args.tree.now.start t c.args.queue.now c.args.node c.args.found.items c.requires.visit.are_found c.args.at
    c.requires.visit.within
    (cut_tree c.args.tree.now c.replace.new.self) c.push_if_waiting.new.queue tree
    (c.in_ok-push_if_waiting.ensures u (ap (subtree c.index-by.result.now) tree ∙ stays))
