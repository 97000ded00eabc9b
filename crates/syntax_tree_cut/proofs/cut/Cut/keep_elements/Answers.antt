use Rattle.std.proofs.Common.{◌<◌, List, length, sym, ap, subst, arith}
use Rattle.syntax_tree.specs.declared.node.Node.{Node}
use Rattle.syntax_tree_cut.proofs.CutFacts.{node_facts}
use Rattle.syntax_tree_cut.proofs.Keeping.{can_pass, keeping_begins_at, keeping_ends, passed}
use Rattle.syntax_tree_cut.proofs.cut.Cut.keep_elements.Goals as goal

pub bounds-nodes-list : goal.bounds-nodes-list
bounds-nodes-list c =
    subst (λ (l : List Node). c.args.list < length l) (sym c.nodes-nodes.ensures.nodes)
    (node_facts c.args.tree.now c.tree_laws.ensures c.nodes-nodes.ensures.whole c.args.self.now c.requires.of c.args.list _ c.requires.can.node).node

pub before_children-progress-requires-clause-node : goal.before_children-progress-requires-clause-node
before_children-progress-requires-clause-node c =
    let lt =
    (node_facts c.args.tree.now c.tree_laws.ensures c.nodes-nodes.ensures.whole c.args.self.now c.requires.of c.args.list _ c.requires.can.node).node in
    let few = c.nodes-nodes.ensures.few in
    let same = ap length c.nodes-nodes.ensures.nodes in
    omega (arith, lt, few, same)

pub before_children-progress-requires-clause-entry : goal.before_children-progress-requires-clause-entry
before_children-progress-requires-clause-entry c =
    (node_facts c.args.tree.now c.tree_laws.ensures c.nodes-nodes.ensures.whole c.args.self.now c.requires.of c.args.list _ c.requires.can.node).node

pub loop-remaining-init : goal.loop-remaining-init
loop-remaining-init c = (
  c.requires.can,
  keeping_begins_at c.args.tree.now c.tree_laws.ensures c.nodes-nodes.ensures.whole c.args.self.now c.args.list c.args.keep.now c.requires.can c.requires.of
      c.nodes-nodes.result.now _ c.before_children-progress.result c.nodes-nodes.ensures.nodes
      (node_facts c.args.tree.now c.tree_laws.ensures c.nodes-nodes.ensures.whole c.args.self.now c.requires.of c.args.list _ c.requires.can.node).node
      c.before_children-progress.ensures.position c.before_children-progress.ensures.elements c.before_children-progress.ensures.gap
      c.before_children-progress.ensures.split,
)

pub pass-progress-requires : goal.pass-progress-requires
pass-progress-requires c =
    can_pass c.args.tree.now c.tree_laws.ensures c.nodes-nodes.ensures.whole c.args.self.now c.args.list c.args.keep.now c.loop-remaining.invariant.0
    c.loop-remaining.remaining c.loop-remaining.self c.loop-remaining.progress c.loop-remaining.invariant.1 c.loop-remaining-test.true

pub loop-remaining-preserved : goal.loop-remaining-preserved
loop-remaining-preserved c = (
  c.loop-remaining.invariant.0,
  passed c.args.tree.now c.tree_laws.ensures c.nodes-nodes.ensures.whole c.args.self.now c.args.list c.args.keep.now
      c.loop-remaining.invariant.0 c.loop-remaining.remaining c.loop-remaining.self c.pass-progress.new.self c.loop-remaining.progress c.pass-progress.result
      c.loop-remaining.invariant.1 c.loop-remaining-test.true c.pass-progress.ensures,
)

pub returns-clause-tree : goal.returns-clause-tree
returns-clause-tree c =
    let end = c.loop-remaining-test.false in
    (keeping_ends c.args.tree.now c.tree_laws.ensures c.nodes-nodes.ensures.whole c.args.self.now c.args.list c.args.keep.now c.loop-remaining.invariant.0
    c.requires.of c.loop-remaining.remaining c.loop-remaining.self c.close.new.self c.loop-remaining.progress c.loop-remaining.invariant.1
    (omega (arith, end)) c.close.ensures.marks c.close.ensures.positions c.close.ensures.kept).0
