use Rattle.std.proofs.Common.{◌<◌, List, length, sym, ap, ◌∙◌, subst, arith}
use Rattle.syntax_tree.specs.declared.node.Node.{Node}
use Rattle.syntax_tree_cut.specs.Cuts.{CutForm}
use Rattle.syntax_tree_cut.proofs.CutFacts.{node_facts}
use Rattle.syntax_tree_cut.proofs.KeepingTokens.{can_pass_tokens, passed_tokens, tokens_begin, tokens_end}
use Rattle.syntax_tree_cut.proofs.cut.Cut.tokens_of_elements.Goals as goal

pub bounds-nodes-list : goal.bounds-nodes-list
bounds-nodes-list c =
    subst (λ (l : List Node). c.args.list < length l) (sym c.nodes-nodes.ensures.nodes)
    (node_facts c.args.tree.now c.tree_laws.ensures c.nodes-nodes.ensures.whole c.args.self.now c.requires.of c.args.list _ c.requires.can.node).node

pub before_children-progress-requires-clause-node : goal.before_children-progress-requires-clause-node
before_children-progress-requires-clause-node c =
    let lt =
    (node_facts c.args.tree.now c.tree_laws.ensures c.nodes-nodes.ensures.whole c.args.self.now c.requires.of c.args.list _ c.requires.can.node).node in
    let few = c.nodes-nodes.ensures.few in
    let same = ap length c.nodes-nodes.ensures.nodes in
    omega (arith, lt, few, same)

pub before_children-progress-requires-clause-entry : goal.before_children-progress-requires-clause-entry
before_children-progress-requires-clause-entry c =
    (node_facts c.args.tree.now c.tree_laws.ensures c.nodes-nodes.ensures.whole c.args.self.now c.requires.of c.args.list _ c.requires.can.node).node

pub loop-remaining-init : goal.loop-remaining-init
loop-remaining-init c = (
  c.requires.can,
  tokens_begin c.args.tree.now c.tree_laws.ensures c.nodes-nodes.ensures.whole c.args.self.now c.requires.of c.args.keep.now c.args.list c.requires.can
      c.nodes-nodes.result.now _ c.in_ok-tokens.tokens.items c.before_children-progress.result c.nodes-nodes.ensures.nodes
      (node_facts c.args.tree.now c.tree_laws.ensures c.nodes-nodes.ensures.whole c.args.self.now c.requires.of c.args.list _ c.requires.can.node).node
      c.before_children-progress.ensures.position c.before_children-progress.ensures.elements c.before_children-progress.ensures.gap
      c.before_children-progress.ensures.split
      (c.in_ok-tokens.ensures.items ∙ c.as_slice.ensures.value ∙ ap (λ (f : CutForm). f.kept) c.self.view_is),
)

pub pass_tokens-progress-requires-clause-can : goal.pass_tokens-progress-requires-clause-can
pass_tokens-progress-requires-clause-can c =
    can_pass_tokens c.args.tree.now c.tree_laws.ensures c.nodes-nodes.ensures.whole c.args.self.now c.requires.of c.args.keep.now c.args.list
    c.loop-remaining.invariant.0
    c.loop-remaining.remaining c.loop-remaining.tokens.items c.loop-remaining.progress c.loop-remaining.invariant.1 c.loop-remaining-test.true

pub loop-remaining-preserved : goal.loop-remaining-preserved
loop-remaining-preserved c = (
  c.loop-remaining.invariant.0,
  passed_tokens c.args.tree.now c.tree_laws.ensures c.nodes-nodes.ensures.whole c.args.self.now c.requires.of c.args.keep.now c.args.list
      c.loop-remaining.invariant.0 c.loop-remaining.remaining c.loop-remaining.tokens.items c.pass_tokens-progress.new.tokens.items
      c.loop-remaining.progress c.pass_tokens-progress.result
      c.loop-remaining.invariant.1 c.loop-remaining-test.true c.pass_tokens-progress.ensures,
)

pub returns-clause-tokens : goal.returns-clause-tokens
returns-clause-tokens c =
    let end = c.loop-remaining-test.false in
    (tokens_end c.args.tree.now c.tree_laws.ensures c.nodes-nodes.ensures.whole c.args.self.now c.requires.of c.args.keep.now c.args.list
    c.loop-remaining.invariant.0
    c.loop-remaining.remaining c.loop-remaining.tokens.items c.remove_between.new.tokens.items c.loop-remaining.progress c.loop-remaining.invariant.1
    (omega (arith, end)) c.remove_between.ensures).0

pub returns-clause-rising : goal.returns-clause-rising
returns-clause-rising c =
    let end = c.loop-remaining-test.false in
    (tokens_end c.args.tree.now c.tree_laws.ensures c.nodes-nodes.ensures.whole c.args.self.now c.requires.of c.args.keep.now c.args.list
    c.loop-remaining.invariant.0
    c.loop-remaining.remaining c.loop-remaining.tokens.items c.remove_between.new.tokens.items c.loop-remaining.progress c.loop-remaining.invariant.1
    (omega (arith, end)) c.remove_between.ensures).1
