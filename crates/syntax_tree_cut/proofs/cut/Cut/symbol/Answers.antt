use Rattle.std.proofs.Common.{Some, length, sym, ap, ◌∙◌, List, ◌<◌, subst}
use Rattle.std.specs.Option.{option_map}
use Rattle.syntax_tree.specs.declared.node.Node.{Node}
use Rattle.syntax_tree.specs.Trees.{symbol_of}
use Rattle.syntax_tree_cut.proofs.CutFacts.{facts_of, index_is}
use Rattle.syntax_tree_cut.proofs.Questions.{node_symbol}
use Rattle.syntax_tree_cut.proofs.cut.Cut.symbol.Goals as goal

pub bounds-nodes-node : goal.bounds-nodes-node
bounds-nodes-node c =
    subst (λ (l : List Node). c.args.node < length l) (sym c.nodes-nodes.ensures.nodes)
    (facts_of c.args.tree.now c.tree_laws.ensures c.nodes-nodes.ensures.whole c.args.self.now c.requires.of c.args.node c.requires.left).2.node

pub returns : goal.returns
returns c =
    let it = facts_of c.args.tree.now c.tree_laws.ensures c.nodes-nodes.ensures.whole c.args.self.now c.requires.of c.args.node c.requires.left in
    ap (option_map symbol_of) it.1
    ∙ ap Some (sym (node_symbol c.args.tree.now c.tree_laws.ensures c.nodes-nodes.ensures.whole c.args.self.now c.requires.of c.args.node it.0 it.1 _
    (index_is c.args.tree.now.nodes c.nodes-nodes.result.now c.args.node _ c.nodes-nodes.ensures.nodes it.2.node)))
