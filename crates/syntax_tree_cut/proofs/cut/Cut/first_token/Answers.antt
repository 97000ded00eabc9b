use Rattle.std.proofs.Common.{◌<◌, List, length, sym, ap, ◌∙◌, subst}
use Rattle.syntax_tree.specs.declared.node.Node.{Node}
use Rattle.syntax_tree_cut.specs.Cuts.{CutForm}
use Rattle.syntax_tree_cut.proofs.CutFacts.{facts_of, index_is}
use Rattle.syntax_tree_cut.proofs.Questions.{first_left, some_within}
use Rattle.syntax_tree_cut.proofs.cut.Cut.first_token.Goals as goal

pub bounds-nodes-node : goal.bounds-nodes-node
bounds-nodes-node c =
    subst (λ (l : List Node). c.args.node < length l) (sym c.nodes-nodes.ensures.nodes)
    (facts_of c.args.tree.now c.tree_laws.ensures c.nodes-nodes.ensures.whole c.args.self.now c.requires.of c.args.node c.requires.left).2.node

pub first_within-requires-clause-span : goal.first_within-requires-clause-span
first_within-requires-clause-span c =
    let it = facts_of c.args.tree.now c.tree_laws.ensures c.nodes-nodes.ensures.whole c.args.self.now c.requires.of c.args.node c.requires.left in
    it.2.span _ (index_is c.args.tree.now.nodes c.nodes-nodes.result.now c.args.node _ c.nodes-nodes.ensures.nodes it.2.node)

pub first_within-requires-clause-some : goal.first_within-requires-clause-some
first_within-requires-clause-some c =
    let it = facts_of c.args.tree.now c.tree_laws.ensures c.nodes-nodes.ensures.whole c.args.self.now c.requires.of c.args.node c.requires.left in
    some_within c.args.tree.now c.tree_laws.ensures c.nodes-nodes.ensures.whole c.args.self.now c.requires.of c.args.node it.0 it.1 c.as_slice.result.now
    (c.as_slice.ensures.value ∙ ap (λ (f : CutForm). f.kept) c.self.view_is) (c.requires.some it.0 it.1) _
    (index_is c.args.tree.now.nodes c.nodes-nodes.result.now c.args.node _ c.nodes-nodes.ensures.nodes it.2.node)

pub returns : goal.returns
returns c =
    let it = facts_of c.args.tree.now c.tree_laws.ensures c.nodes-nodes.ensures.whole c.args.self.now c.requires.of c.args.node c.requires.left in
    first_left c.args.tree.now c.tree_laws.ensures c.nodes-nodes.ensures.whole c.args.self.now c.requires.of c.args.node it.0 it.1 c.as_slice.result.now
    (c.as_slice.ensures.value ∙ ap (λ (f : CutForm). f.kept) c.self.view_is) _ c.first_within.result c.first_within.ensures
    (index_is c.args.tree.now.nodes c.nodes-nodes.result.now c.args.node _ c.nodes-nodes.ensures.nodes it.2.node)
