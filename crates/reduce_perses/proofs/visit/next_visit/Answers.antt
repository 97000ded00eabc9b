use Rattle.std.proofs.Common.{sym, ◌∙◌}
use Rattle.syntax_tree_cut.specs.Cuts.{cut_tree}
use Rattle.reduce_perses.proofs.NextLemmas.{ends_at, next_at, next_fewer, next_taken, next_trials, no_node}
use Rattle.reduce_perses.proofs.visit.next_visit.Goals as goal

pub begin_visit-requires-clause-taken : goal.begin_visit-requires-clause-taken
begin_visit-requires-clause-taken c =
    next_taken c.args.tree.now.form c.args.tree.now.start
    (cut_tree c.args.tree.now c.args.cut.now) c.args.queue.now c.loop-node.queue c.pop_heaviest.new.self c.in-Some.node c.loop-node.invariant
    (sym c.pop_heaviest.ensures.next ∙ c.in-Some.is) c.pop_heaviest.ensures.later

pub returns-then-is_some-clause-rest : goal.returns-then-is_some-clause-rest
returns-then-is_some-clause-rest c =
    next_trials c.args.tree.now.form c.args.tree.now.start
    (cut_tree c.args.tree.now c.args.cut.now) c.args.queue.now c.loop-node.queue c.pop_heaviest.new.self c.in-Some.node c.loop-node.invariant
    (sym c.pop_heaviest.ensures.next ∙ c.in-Some.is) c.pop_heaviest.ensures.later c.begin_visit.new.queue c.in_ok-begun.begun c.in_ok-begun.ensures.on
    (sym c.is_some.ensures ∙ c.if-is_some.true)

pub loop-node-preserved : goal.loop-node-preserved
loop-node-preserved c =
    next_at c.args.tree.now.form c.args.tree.now.start
    (cut_tree c.args.tree.now c.args.cut.now) c.args.queue.now c.loop-node.queue c.pop_heaviest.new.self c.in-Some.node c.loop-node.invariant
    (sym c.pop_heaviest.ensures.next ∙ c.in-Some.is) c.pop_heaviest.ensures.later c.begin_visit.new.queue c.in_ok-begun.begun c.in_ok-begun.ensures.on
    (sym c.is_some.ensures ∙ c.if-is_some.false)

pub loop-node-smaller : goal.loop-node-smaller
loop-node-smaller c =
    next_fewer c.args.tree.now.form c.args.tree.now.start
    (cut_tree c.args.tree.now c.args.cut.now) c.args.queue.now c.loop-node.queue c.pop_heaviest.new.self c.in-Some.node c.loop-node.invariant
    (sym c.pop_heaviest.ensures.next ∙ c.in-Some.is) c.pop_heaviest.ensures.later c.begin_visit.new.queue c.in_ok-begun.begun c.in_ok-begun.ensures.on
    (sym c.is_some.ensures ∙ c.if-is_some.false) c.in_ok-begun.ensures.fewer

pub returns-clause-rest : goal.returns-clause-rest
returns-clause-rest c =
    ends_at c.args.tree.now.form c.args.tree.now.start (cut_tree c.args.tree.now c.args.cut.now) c.args.queue.now c.loop-node.queue c.loop-node.invariant
    (sym c.pop_heaviest.ensures.next ∙ no_node c.pop_heaviest.result c.in_default.not-Some)
