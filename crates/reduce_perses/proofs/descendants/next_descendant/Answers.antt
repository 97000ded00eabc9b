use Rattle.std.proofs.Common.{◌+◌, false}
use Rattle.reduce_rounds.specs.Trials.{state_after, trials_after}
use Rattle.syntax_tree.specs.Trees.{PlainTree}
use Rattle.syntax_tree_cut.specs.Cuts.{cut_tree}
use Rattle.reduce_perses.specs.inner.Visiting.{descendants_at}
use Rattle.reduce_perses.proofs.DescendantsLemmas.{left_at_no, rest_at_no, same_goes}
use Rattle.reduce_perses.proofs.descendants.next_descendant.Goals as goal

pub returns : goal.returns
returns c =
    let t : PlainTree = cut_tree c.args.tree.now c.args.cut.now in
    let visit = c.requires.visit in
    let trials = descendants_at c.args.tree.now.form c.args.tree.now.start t c.args.queue.now c.args.at c.args.node in
    record {
      on =
          same_goes c.args.tree.now.form c.args.tree.now.start t c.descendant_at.new.queue t (state_after t trials false)
          (descendants_at c.args.tree.now.form c.args.tree.now.start t c.args.queue.now (c.args.at + 1) c.args.node)
          (trials_after trials false) c.descendant_at.result
          (left_at_no c.args.tree.now.form c.args.tree.now.start t c.args.queue.now c.args.node c.args.found.items visit.are_found c.args.at visit.within)
          (rest_at_no c.args.tree.now.form c.args.tree.now.start t c.args.queue.now c.args.node c.args.found.items visit.are_found c.args.at visit.within)
          c.descendant_at.ensures.on;
    }
