use Rattle.std.proofs.Common.{arith}
use Rattle.syntax_tree.specs.Trees.{PlainTree}
use Rattle.syntax_tree_cut.proofs.CutFacts.{node_facts}
use Rattle.syntax_tree_cut.proofs.CutCalls.{lighter_below, node_replaced}
use Rattle.syntax_tree_cut.proofs.cut.Cut.replace.Goals as goal

pub exchange-requires-clause-mark : goal.exchange-requires-clause-mark
exchange-requires-clause-mark c =
    let node =
    node_facts c.args.tree.now c.tree_laws.ensures c.nodes-nodes.ensures.whole c.args.self.now c.requires.of c.args.node
    (PlainTree.node c.args.node c.requires.can.rule c.requires.can.alt c.requires.can.children) c.requires.can.node in
    let other =
    node_facts c.args.tree.now c.tree_laws.ensures c.nodes-nodes.ensures.whole c.args.self.now c.requires.of c.args.by c.requires.can.other
    c.requires.can.other_is in
    node.mark

pub exchange-requires-clause-position : goal.exchange-requires-clause-position
exchange-requires-clause-position c =
    let node = node_facts c.args.tree.now c.tree_laws.ensures c.nodes-nodes.ensures.whole c.args.self.now c.requires.of c.args.node
    (PlainTree.node c.args.node c.requires.can.rule c.requires.can.alt c.requires.can.children) c.requires.can.node in
    let other = node_facts c.args.tree.now c.tree_laws.ensures c.nodes-nodes.ensures.whole c.args.self.now c.requires.of c.args.by c.requires.can.other
    c.requires.can.other_is in
    node.position

pub exchange-requires-clause-by_position : goal.exchange-requires-clause-by_position
exchange-requires-clause-by_position c =
    let node = node_facts c.args.tree.now c.tree_laws.ensures c.nodes-nodes.ensures.whole c.args.self.now c.requires.of
    c.args.node (PlainTree.node c.args.node c.requires.can.rule c.requires.can.alt c.requires.can.children) c.requires.can.node in
    let other = node_facts c.args.tree.now c.tree_laws.ensures c.nodes-nodes.ensures.whole c.args.self.now c.requires.of c.args.by
    c.requires.can.other c.requires.can.other_is in
    other.position

pub exchange-requires-clause-node : goal.exchange-requires-clause-node
exchange-requires-clause-node c =
    let node = node_facts c.args.tree.now c.tree_laws.ensures c.nodes-nodes.ensures.whole c.args.self.now
    c.requires.of c.args.node (PlainTree.node c.args.node c.requires.can.rule c.requires.can.alt c.requires.can.children) c.requires.can.node in
    let other = node_facts c.args.tree.now c.tree_laws.ensures c.nodes-nodes.ensures.whole c.args.self.now c.requires.of
    c.args.by c.requires.can.other c.requires.can.other_is in
    node.node

pub exchange-requires-clause-by_node : goal.exchange-requires-clause-by_node
exchange-requires-clause-by_node c =
    let node = node_facts c.args.tree.now c.tree_laws.ensures c.nodes-nodes.ensures.whole
    c.args.self.now c.requires.of c.args.node (PlainTree.node c.args.node c.requires.can.rule c.requires.can.alt c.requires.can.children) c.requires.can.node in
    let other = node_facts c.args.tree.now c.tree_laws.ensures c.nodes-nodes.ensures.whole c.args.self.now
    c.requires.of c.args.by c.requires.can.other c.requires.can.other_is in
    other.node

pub exchange-requires-clause-rising : goal.exchange-requires-clause-rising
exchange-requires-clause-rising c =
    let node = node_facts c.args.tree.now c.tree_laws.ensures
    c.nodes-nodes.ensures.whole c.args.self.now c.requires.of c.args.node
    (PlainTree.node c.args.node c.requires.can.rule c.requires.can.alt c.requires.can.children) c.requires.can.node in
    let other = node_facts c.args.tree.now c.tree_laws.ensures c.nodes-nodes.ensures.whole
    c.args.self.now c.requires.of c.args.by c.requires.can.other c.requires.can.other_is in
    node.rising

pub exchange-requires-clause-span : goal.exchange-requires-clause-span
exchange-requires-clause-span c =
    let node = node_facts c.args.tree.now c.tree_laws.ensures c.nodes-nodes.ensures.whole c.args.self.now c.requires.of c.args.node (PlainTree.node c.args.node
    c.requires.can.rule c.requires.can.alt c.requires.can.children) c.requires.can.node in
    let other = node_facts c.args.tree.now c.tree_laws.ensures
    c.nodes-nodes.ensures.whole c.args.self.now c.requires.of c.args.by c.requires.can.other c.requires.can.other_is in
    node.span

pub exchange-requires-clause-by_span : goal.exchange-requires-clause-by_span
exchange-requires-clause-by_span c =
    let node = node_facts c.args.tree.now c.tree_laws.ensures c.nodes-nodes.ensures.whole c.args.self.now c.requires.of c.args.node (PlainTree.node
    c.args.node c.requires.can.rule c.requires.can.alt c.requires.can.children) c.requires.can.node in
    let other = node_facts c.args.tree.now
    c.tree_laws.ensures c.nodes-nodes.ensures.whole c.args.self.now c.requires.of c.args.by c.requires.can.other c.requires.can.other_is in
    other.span

pub exchange-requires-clause-fewer : goal.exchange-requires-clause-fewer
exchange-requires-clause-fewer c =
    let node = node_facts c.args.tree.now
    c.tree_laws.ensures c.nodes-nodes.ensures.whole c.args.self.now c.requires.of c.args.node
    (PlainTree.node c.args.node c.requires.can.rule c.requires.can.alt c.requires.can.children) c.requires.can.node in
    let other = node_facts
    c.args.tree.now c.tree_laws.ensures c.nodes-nodes.ensures.whole c.args.self.now c.requires.of c.args.by c.requires.can.other c.requires.can.other_is in
    λ x y at_x at_y.
    let one = node.tokens x at_x in
    let two = other.tokens y at_y in
    let less =
    lighter_below c.requires.can.other (PlainTree.node c.args.node c.requires.can.rule c.requires.can.alt c.requires.can.children) c.requires.can.below in
    omega (arith, one, two, less)

pub returns-clause-tree : goal.returns-clause-tree
returns-clause-tree c =
    (node_replaced c.args.tree.now c.tree_laws.ensures c.nodes-nodes.ensures.whole c.args.self.now c.requires.of c.exchange.new.self c.args.node c.args.by
    c.requires.can c.exchange.ensures).0

pub returns-clause-of : goal.returns-clause-of
returns-clause-of c =
    (node_replaced c.args.tree.now c.tree_laws.ensures c.nodes-nodes.ensures.whole c.args.self.now c.requires.of c.exchange.new.self c.args.node c.args.by
    c.requires.can c.exchange.ensures).1
