use Rattle.std.proofs.Common.{Some, sym, ap, ◌∙◌, arith, length}
use Rattle.std.specs.Prelude.{option_map}
use Rattle.syntax_tree.specs.Trees.{weight}
use Rattle.syntax_tree_cut.proofs.CutFacts.{facts_of, get_there}
use Rattle.syntax_tree_cut.proofs.cut.Cut.weight.Goals as goal

pub count_tokens-requires-clause-node : goal.count_tokens-requires-clause-node
count_tokens-requires-clause-node c =
    let it = facts_of c.args.tree.now c.tree_laws.ensures c.nodes-nodes.ensures.whole c.args.self.now c.requires.of c.args.node c.requires.left in
    it.2.node

pub count_tokens-requires-clause-rising : goal.count_tokens-requires-clause-rising
count_tokens-requires-clause-rising c =
    let it = facts_of c.args.tree.now c.tree_laws.ensures c.nodes-nodes.ensures.whole c.args.self.now c.requires.of c.args.node c.requires.left in
    it.2.rising

pub count_tokens-requires-clause-span : goal.count_tokens-requires-clause-span
count_tokens-requires-clause-span c =
    let it = facts_of c.args.tree.now c.tree_laws.ensures c.nodes-nodes.ensures.whole c.args.self.now c.requires.of c.args.node c.requires.left in
    it.2.span

pub overflow_cast-result : goal.overflow_cast-result
overflow_cast-result c =
    let it = facts_of c.args.tree.now c.tree_laws.ensures c.nodes-nodes.ensures.whole c.args.self.now c.requires.of c.args.node c.requires.left in
    let entry = get_there c.args.tree.now.nodes c.args.node it.2.node in
    let counted = c.count_tokens.ensures entry.0 entry.1 in
    let weighs = it.2.tokens entry.0 entry.1 in
    let few = it.2.few in
    let same = ap length c.nodes-nodes.ensures.nodes in
    let bound = c.nodes-nodes.ensures.few in
    omega (arith, counted, weighs, few, same, bound)

pub returns : goal.returns
returns c =
    let it = facts_of c.args.tree.now c.tree_laws.ensures c.nodes-nodes.ensures.whole c.args.self.now c.requires.of c.args.node c.requires.left in
    let entry = get_there c.args.tree.now.nodes c.args.node it.2.node in
    ap (option_map weight) it.1 ∙ ap Some (sym (it.2.tokens entry.0 entry.1) ∙ sym (c.count_tokens.ensures entry.0 entry.1))
