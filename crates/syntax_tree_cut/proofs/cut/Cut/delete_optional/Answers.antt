use Rattle.std.proofs.Common.{ℕ, ◌+◌, ◌<◌, List, length, sym, ap, ◌∙◌, subst, arith}
use Rattle.std.proofs.lemmas.Option.{none-some}
use Rattle.syntax_tree.specs.Numbered.{number_of}
use Rattle.syntax_tree_cut.specs.declared.mark.Mark.{Mark}
use Rattle.syntax_tree_cut.specs.Cuts.{CutForm, IsOccupant}
use Rattle.syntax_tree_cut.specs.inner.Cuts.{ReplacementsRise}
use Rattle.syntax_tree_cut.specs.inner.Steps.{HasDeleted}
use Rattle.syntax_tree_cut.proofs.CutFacts.{nodes_count}
use Rattle.syntax_tree_cut.proofs.Positions.{replacements_rise}
use Rattle.syntax_tree_cut.proofs.CutCalls.{content_at, content_deleted, content_facts}
use Rattle.syntax_tree_cut.proofs.TokensLeft.{is_content}
use Rattle.syntax_tree_cut.proofs.cut.Cut.delete_optional.Goals as goal

pub overflow_add-node : goal.overflow_add-node
overflow_add-node c =
    let at = content_at c.args.tree.now c.tree_laws.ensures c.nodes-nodes.ensures.whole c.args.self.now c.requires.of c.args.node c.requires.can in
    let marks = c.requires.of.for_each in
    let count = nodes_count c.args.tree.now c.tree_laws.ensures c.nodes-nodes.ensures.whole in
    let few = c.nodes-nodes.ensures.few in
    let same = ap length c.nodes-nodes.ensures.nodes in
    let lt = at.0 in
    omega (arith, lt, marks, count, few, same)

pub occupant-requires-clause-node : goal.occupant-requires-clause-node
occupant-requires-clause-node c =
    subst (λ (l : List Mark). c.args.node + 1 < length l) (sym (c.as_slice.ensures.value ∙ ap (λ (f : CutForm). f.marks) c.self.view_is))
    (content_at c.args.tree.now c.tree_laws.ensures c.nodes-nodes.ensures.whole c.args.self.now c.requires.of c.args.node c.requires.can).0

pub occupant-requires-clause-rise : goal.occupant-requires-clause-rise
occupant-requires-clause-rise c =
    subst (λ (l : List Mark). ReplacementsRise l) (sym (c.as_slice.ensures.value ∙ ap (λ (f : CutForm). f.marks) c.self.view_is))
    (replacements_rise c.args.tree.now c.tree_laws.ensures c.nodes-nodes.ensures.whole c.args.self.now c.requires.of)

pub delete-requires-clause-mark : goal.delete-requires-clause-mark
delete-requires-clause-mark c =
    let same =
    is_content c.as_slice.result.now c.args.self.now.marks (c.args.node + 1) c.occupant.result c.in-Some.content (number_of c.requires.can.content)
    (c.as_slice.ensures.value ∙ ap (λ (f : CutForm). f.marks) c.self.view_is)
    (content_at c.args.tree.now c.tree_laws.ensures c.nodes-nodes.ensures.whole c.args.self.now c.requires.of c.args.node c.requires.can).1 c.occupant.ensures
    c.in-Some.is in
    let facts = content_facts c.args.tree.now c.tree_laws.ensures c.nodes-nodes.ensures.whole c.args.self.now c.requires.of c.args.node c.requires.can in
    let lt = facts.1.mark in
    omega (arith, same, lt)

pub delete-requires-clause-node : goal.delete-requires-clause-node
delete-requires-clause-node c =
    let same = is_content c.as_slice.result.now c.args.self.now.marks (c.args.node + 1) c.occupant.result c.in-Some.content (number_of c.requires.can.content)
    (c.as_slice.ensures.value ∙ ap (λ (f : CutForm). f.marks) c.self.view_is)
    (content_at c.args.tree.now c.tree_laws.ensures c.nodes-nodes.ensures.whole c.args.self.now c.requires.of c.args.node c.requires.can).1
    c.occupant.ensures c.in-Some.is in
    let facts = content_facts c.args.tree.now c.tree_laws.ensures c.nodes-nodes.ensures.whole c.args.self.now c.requires.of c.args.node c.requires.can in
    let lt = facts.1.node in
    omega (arith, same, lt)

pub unreachable-requires : goal.unreachable-requires
unreachable-requires c =
    none-some (number_of c.requires.can.content)
    (sym c.in-None.is ∙ (content_at c.args.tree.now c.tree_laws.ensures c.nodes-nodes.ensures.whole c.args.self.now c.requires.of c.args.node c.requires.can).1
    c.occupant.result
    (subst (λ (l : List Mark). IsOccupant l (c.args.node + 1) c.occupant.result)
    (c.as_slice.ensures.value ∙ ap (λ (f : CutForm). f.marks) c.self.view_is) c.occupant.ensures))

pub returns-clause-tree : goal.returns-clause-tree
returns-clause-tree c =
    let same = is_content c.as_slice.result.now c.args.self.now.marks (c.args.node + 1) c.occupant.result c.in-Some.content
    (number_of c.requires.can.content) (c.as_slice.ensures.value ∙ ap (λ (f : CutForm). f.marks) c.self.view_is)
    (content_at c.args.tree.now c.tree_laws.ensures c.nodes-nodes.ensures.whole c.args.self.now c.requires.of c.args.node
    c.requires.can).1 c.occupant.ensures c.in-Some.is in
    (content_deleted c.args.tree.now c.tree_laws.ensures c.nodes-nodes.ensures.whole c.args.self.now c.requires.of c.delete.new.self c.args.node c.requires.can
    (subst (λ (q : ℕ). HasDeleted c.args.tree.now c.args.self.now c.delete.new.self q) same c.delete.ensures)).0

pub returns-clause-of : goal.returns-clause-of
returns-clause-of c =
    let same = is_content c.as_slice.result.now c.args.self.now.marks
    (c.args.node + 1) c.occupant.result c.in-Some.content (number_of c.requires.can.content)
    (c.as_slice.ensures.value ∙ ap (λ (f : CutForm). f.marks) c.self.view_is)
    (content_at c.args.tree.now c.tree_laws.ensures c.nodes-nodes.ensures.whole c.args.self.now c.requires.of
    c.args.node c.requires.can).1 c.occupant.ensures c.in-Some.is in
    (content_deleted c.args.tree.now c.tree_laws.ensures c.nodes-nodes.ensures.whole c.args.self.now c.requires.of c.delete.new.self c.args.node c.requires.can
    (subst (λ (q : ℕ). HasDeleted c.args.tree.now c.args.self.now c.delete.new.self q) same c.delete.ensures)).1
