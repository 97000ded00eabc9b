use Rattle.std.proofs.Common.{◌<◌, Option, length, ap, arith}
use Rattle.std.specs.Option.{option_map_or}
use Rattle.syntax_tree.specs.Trees.{PlainTree}
use Rattle.syntax_tree.specs.Numbered.{subtree}
use Rattle.syntax_tree.specs.Levels.{below_in_level_order}
use Rattle.syntax_tree_cut.specs.Cuts.{cut_tree}
use Rattle.syntax_tree_cut.proofs.Lent.{some_of}
use Rattle.descend_replace.proofs.Queue.{next_is_before, next_of, queue_begins, queue_ends}
use Rattle.descend_replace.proofs.Found.{children_are, next_is_left, queue_step}
use Rattle.descend_replace.proofs.descend.level_order.Goals as goal

pub loop-next-init : goal.loop-next-init
loop-next-init c =
    λ v e. queue_begins v c.in_ok-found.found.items
    (children_are (subtree c.args.node (cut_tree c.args.tree.now c.args.cut.now)) c.in_ok-found.found.items v c.in_ok-found.ensures e)

pub push_children-requires : goal.push_children-requires
push_children-requires c =
    let v = some_of (subtree c.args.node (cut_tree c.args.tree.now c.args.cut.now)) c.requires.left in
    let lt : c.loop-next.next < length c.loop-next.found.items = omega arith in
    record {
      of = c.requires.of;
      left =
          next_is_left c.args.tree.now c.nodes-nodes.ensures.whole c.args.cut.now c.requires.of c.args.node v.0 v.1 c.loop-next.next c.loop-next.found.items
          c.index-parent.result.now c.index-parent.result.now (c.loop-next.invariant v.0 v.1) lt c.index-parent.ensures;
    }

pub loop-next-preserved : goal.loop-next-preserved
loop-next-preserved c = λ v e.
    let lt : c.loop-next.next < length c.loop-next.found.items = omega arith in
    queue_step c.args.tree.now c.nodes-nodes.ensures.whole c.args.cut.now c.requires.of c.args.node v e c.loop-next.next c.loop-next.found.items
    c.push_children.new.into.items c.index-parent.result.now c.index-parent.result.now (c.loop-next.invariant v e) lt c.index-parent.ensures
    c.in_ok-push_children.ensures

pub loop-next-smaller : goal.loop-next-smaller
loop-next-smaller c =
    let v = some_of (subtree c.args.node (cut_tree c.args.tree.now c.args.cut.now)) c.requires.left in
    let lt : c.loop-next.next < length c.loop-next.found.items = omega arith in
    let before =
    next_is_before v.0 c.loop-next.next c.loop-next.found.items (next_of v.0 c.loop-next.next c.loop-next.found.items (c.loop-next.invariant v.0 v.1) lt) in
    let count = ap (λ (o : Option PlainTree). option_map_or (λ (t : PlainTree). length (below_in_level_order t)) o 0) v.1 in
    omega (arith, before, count)

pub returns : goal.returns
returns c = λ v e. queue_ends v c.loop-next.next c.loop-next.found.items (c.loop-next.invariant v e) (let over = c.loop-next-test.false in omega (arith, over))
