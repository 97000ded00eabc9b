use Rattle.std.proofs.Common.{ℕ, ◌+◌, ◌<◌, List, length, sym, ap, ◌∙◌, subst, arith}
use Rattle.std.proofs.lemmas.Option.{none-some}
use Rattle.syntax_tree.specs.declared.node.Node.{Node}
use Rattle.syntax_tree.specs.Numbered.{number_of}
use Rattle.syntax_tree_cut.specs.declared.mark.Mark.{Mark}
use Rattle.syntax_tree_cut.specs.Cuts.{CutForm, IsOccupant}
use Rattle.syntax_tree_cut.specs.inner.Cuts.{ReplacementsRise}
use Rattle.syntax_tree_cut.proofs.CutFacts.{nodes_count}
use Rattle.syntax_tree_cut.proofs.Positions.{replacements_rise}
use Rattle.syntax_tree_cut.proofs.CutCalls.{content_at, content_facts}
use Rattle.syntax_tree_cut.proofs.TokensLeft.{content_entry, content_left, is_content}
use Rattle.syntax_tree_cut.proofs.cut.Cut.tokens_without_content.Goals as goal

pub overflow_add-node : goal.overflow_add-node
overflow_add-node c =
    let at = content_at c.args.tree.now c.tree_laws.ensures c.nodes-nodes.ensures.whole c.args.self.now c.requires.of c.args.node c.requires.can in
    let marks = c.requires.of.for_each in
    let count = nodes_count c.args.tree.now c.tree_laws.ensures c.nodes-nodes.ensures.whole in
    let few = c.nodes-nodes.ensures.few in
    let same = ap length c.nodes-nodes.ensures.nodes in
    let lt = at.0 in
    omega (arith, lt, marks, count, few, same)

pub occupant-requires-clause-node : goal.occupant-requires-clause-node
occupant-requires-clause-node c =
    subst (λ (l : List Mark). c.args.node + 1 < length l) (sym (c.as_slice.ensures.value ∙ ap (λ (f : CutForm). f.marks) c.self.view_is))
    (content_at c.args.tree.now c.tree_laws.ensures c.nodes-nodes.ensures.whole c.args.self.now c.requires.of c.args.node c.requires.can).0

pub occupant-requires-clause-rise : goal.occupant-requires-clause-rise
occupant-requires-clause-rise c =
    subst (λ (l : List Mark). ReplacementsRise l) (sym (c.as_slice.ensures.value ∙ ap (λ (f : CutForm). f.marks) c.self.view_is))
    (replacements_rise c.args.tree.now c.tree_laws.ensures c.nodes-nodes.ensures.whole c.args.self.now c.requires.of)

pub bounds-nodes-content : goal.bounds-nodes-content
bounds-nodes-content c =
    let same =
    is_content c.as_slice.result.now c.args.self.now.marks (c.args.node + 1) c.occupant.result c.in-Some.content (number_of c.requires.can.content)
    (c.as_slice.ensures.value ∙ ap (λ (f : CutForm). f.marks) c.self.view_is) (content_at c.args.tree.now c.tree_laws.ensures c.nodes-nodes.ensures.whole
    c.args.self.now c.requires.of c.args.node c.requires.can).1
    c.occupant.ensures c.in-Some.is in
    subst (λ (l : List Node). c.in-Some.content < length l) (sym c.nodes-nodes.ensures.nodes)
    (subst (λ (n : ℕ). n < length c.args.tree.now.nodes) (sym same) (content_facts c.args.tree.now c.tree_laws.ensures c.nodes-nodes.ensures.whole
    c.args.self.now c.requires.of c.args.node c.requires.can).1.node)

pub remove_within-requires-clause-span : goal.remove_within-requires-clause-span
remove_within-requires-clause-span c =
    (content_entry c.args.tree.now c.tree_laws.ensures c.nodes-nodes.ensures.whole c.args.self.now c.requires.of c.args.node c.requires.can c.in-Some.content
    (is_content c.as_slice.result.now c.args.self.now.marks (c.args.node + 1) c.occupant.result c.in-Some.content (number_of c.requires.can.content)
    (c.as_slice.ensures.value ∙ ap (λ (f : CutForm). f.marks) c.self.view_is) (content_at c.args.tree.now c.tree_laws.ensures c.nodes-nodes.ensures.whole
    c.args.self.now c.requires.of c.args.node c.requires.can).1
    c.occupant.ensures c.in-Some.is) c.nodes-nodes.result.now _ c.nodes-nodes.ensures.nodes).2

pub unreachable-requires : goal.unreachable-requires
unreachable-requires c =
    none-some (number_of c.requires.can.content)
    (sym c.in-None.is ∙ (content_at c.args.tree.now c.tree_laws.ensures c.nodes-nodes.ensures.whole c.args.self.now c.requires.of c.args.node c.requires.can).1
    c.occupant.result
    (subst (λ (l : List Mark). IsOccupant l (c.args.node + 1) c.occupant.result)
    (c.as_slice.ensures.value ∙ ap (λ (f : CutForm). f.marks) c.self.view_is) c.occupant.ensures))

pub returns-clause-tokens : goal.returns-clause-tokens
returns-clause-tokens c =
    let same =
    is_content c.as_slice.result.now c.args.self.now.marks (c.args.node + 1) c.occupant.result c.in-Some.content (number_of c.requires.can.content)
    (c.as_slice.ensures.value ∙ ap (λ (f : CutForm). f.marks) c.self.view_is) (content_at c.args.tree.now c.tree_laws.ensures c.nodes-nodes.ensures.whole
    c.args.self.now c.requires.of c.args.node c.requires.can).1
    c.occupant.ensures c.in-Some.is in
    (content_left c.args.tree.now c.tree_laws.ensures c.nodes-nodes.ensures.whole c.args.self.now c.requires.of c.args.node c.requires.can c.in-Some.content
    _ c.in_ok-tokens-in-Some.tokens.items c.remove_within.new.tokens.items same
    (content_entry c.args.tree.now c.tree_laws.ensures c.nodes-nodes.ensures.whole c.args.self.now c.requires.of c.args.node c.requires.can c.in-Some.content
    same c.nodes-nodes.result.now _ c.nodes-nodes.ensures.nodes).1
    (c.in_ok-tokens-in-Some.ensures.items ∙ c.as_slice-in-Some.ensures.value ∙ ap (λ (f : CutForm). f.kept) c.self.view_is) c.remove_within.ensures).0

pub returns-clause-rising : goal.returns-clause-rising
returns-clause-rising c =
    let same =
    is_content c.as_slice.result.now c.args.self.now.marks (c.args.node + 1) c.occupant.result c.in-Some.content (number_of c.requires.can.content)
    (c.as_slice.ensures.value ∙ ap (λ (f : CutForm). f.marks) c.self.view_is) (content_at c.args.tree.now c.tree_laws.ensures c.nodes-nodes.ensures.whole
    c.args.self.now c.requires.of c.args.node c.requires.can).1
    c.occupant.ensures c.in-Some.is in
    (content_left c.args.tree.now c.tree_laws.ensures c.nodes-nodes.ensures.whole c.args.self.now c.requires.of c.args.node c.requires.can c.in-Some.content
    _ c.in_ok-tokens-in-Some.tokens.items c.remove_within.new.tokens.items same
    (content_entry c.args.tree.now c.tree_laws.ensures c.nodes-nodes.ensures.whole c.args.self.now c.requires.of c.args.node c.requires.can c.in-Some.content
    same c.nodes-nodes.result.now _ c.nodes-nodes.ensures.nodes).1
    (c.in_ok-tokens-in-Some.ensures.items ∙ c.as_slice-in-Some.ensures.value ∙ ap (λ (f : CutForm). f.kept) c.self.view_is) c.remove_within.ensures).1
