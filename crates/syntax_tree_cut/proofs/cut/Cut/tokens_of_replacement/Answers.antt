use Rattle.std.proofs.Common.{◌<◌, List, length, ◌∙◌, ap, subst, sym}
use Rattle.syntax_tree.specs.declared.node.Node.{Node}
use Rattle.syntax_tree.specs.Trees.{PlainTree}
use Rattle.syntax_tree_cut.specs.Cuts.{CutForm}
use Rattle.syntax_tree_cut.proofs.CutFacts.{node_facts}
use Rattle.syntax_tree_cut.proofs.TokensLeft.{entry_of, fewer_of, replacement_left}
use Rattle.syntax_tree_cut.proofs.cut.Cut.tokens_of_replacement.Goals as goal

pub bounds-nodes-node : goal.bounds-nodes-node
bounds-nodes-node c =
    subst (λ (l : List Node). c.args.node < length l) (sym c.nodes-nodes.ensures.nodes)
    (node_facts c.args.tree.now c.tree_laws.ensures c.nodes-nodes.ensures.whole c.args.self.now c.requires.of c.args.node
    (PlainTree.node c.args.node c.requires.can.rule c.requires.can.alt c.requires.can.children) c.requires.can.node).node

pub bounds-nodes-by : goal.bounds-nodes-by
bounds-nodes-by c =
    subst (λ (l : List Node). c.args.by < length l) (sym c.nodes-nodes.ensures.nodes)
    (node_facts c.args.tree.now c.tree_laws.ensures c.nodes-nodes.ensures.whole c.args.self.now c.requires.of c.args.by c.requires.can.other
    c.requires.can.other_is).node

pub keep_within-requires-clause-old_span : goal.keep_within-requires-clause-old_span
keep_within-requires-clause-old_span c =
    (entry_of c.args.tree.now c.tree_laws.ensures c.nodes-nodes.ensures.whole c.args.self.now c.requires.of c.args.node
    (PlainTree.node c.args.node c.requires.can.rule c.requires.can.alt c.requires.can.children)
    c.requires.can.node c.nodes-nodes.result.now _ c.nodes-nodes.ensures.nodes).2

pub keep_within-requires-clause-new_span : goal.keep_within-requires-clause-new_span
keep_within-requires-clause-new_span c =
    (entry_of c.args.tree.now c.tree_laws.ensures c.nodes-nodes.ensures.whole c.args.self.now c.requires.of c.args.by c.requires.can.other
    c.requires.can.other_is c.nodes-nodes.result.now _
    c.nodes-nodes.ensures.nodes).2

pub keep_within-requires-clause-fewer : goal.keep_within-requires-clause-fewer
keep_within-requires-clause-fewer c =
    fewer_of c.args.tree.now c.tree_laws.ensures c.nodes-nodes.ensures.whole c.args.self.now c.requires.of c.args.node c.args.by c.requires.can
    c.nodes-nodes.result.now _ c.in_ok-tokens.tokens.items c.nodes-nodes.ensures.nodes
    (c.in_ok-tokens.ensures.items ∙ c.as_slice.ensures.value ∙ ap (λ (f : CutForm). f.kept) c.self.view_is)

pub returns-clause-tokens : goal.returns-clause-tokens
returns-clause-tokens c =
    (replacement_left c.args.tree.now c.tree_laws.ensures c.nodes-nodes.ensures.whole c.args.self.now c.requires.of c.args.node c.args.by c.requires.can _ _
    c.in_ok-tokens.tokens.items c.keep_within.new.tokens.items
    (entry_of c.args.tree.now c.tree_laws.ensures c.nodes-nodes.ensures.whole c.args.self.now c.requires.of c.args.node
    (PlainTree.node c.args.node c.requires.can.rule c.requires.can.alt c.requires.can.children)
    c.requires.can.node c.nodes-nodes.result.now _ c.nodes-nodes.ensures.nodes).1
    (entry_of c.args.tree.now c.tree_laws.ensures c.nodes-nodes.ensures.whole c.args.self.now c.requires.of c.args.by c.requires.can.other
    c.requires.can.other_is c.nodes-nodes.result.now _
    c.nodes-nodes.ensures.nodes).1
    (c.in_ok-tokens.ensures.items ∙ c.as_slice.ensures.value ∙ ap (λ (f : CutForm). f.kept) c.self.view_is) c.keep_within.ensures).0

pub returns-clause-rising : goal.returns-clause-rising
returns-clause-rising c =
    (replacement_left c.args.tree.now c.tree_laws.ensures c.nodes-nodes.ensures.whole c.args.self.now c.requires.of c.args.node c.args.by c.requires.can _ _
    c.in_ok-tokens.tokens.items c.keep_within.new.tokens.items
    (entry_of c.args.tree.now c.tree_laws.ensures c.nodes-nodes.ensures.whole c.args.self.now c.requires.of c.args.node
    (PlainTree.node c.args.node c.requires.can.rule c.requires.can.alt c.requires.can.children)
    c.requires.can.node c.nodes-nodes.result.now _ c.nodes-nodes.ensures.nodes).1
    (entry_of c.args.tree.now c.tree_laws.ensures c.nodes-nodes.ensures.whole c.args.self.now c.requires.of c.args.by c.requires.can.other
    c.requires.can.other_is c.nodes-nodes.result.now _
    c.nodes-nodes.ensures.nodes).1
    (c.in_ok-tokens.ensures.items ∙ c.as_slice.ensures.value ∙ ap (λ (f : CutForm). f.kept) c.self.view_is) c.keep_within.ensures).1
