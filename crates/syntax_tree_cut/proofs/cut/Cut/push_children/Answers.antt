use Rattle.std.proofs.Common.{◌<◌, List, length, sym, ap, ◌∙◌, subst, arith}
use Rattle.syntax_tree.specs.declared.node.Node.{Node}
use Rattle.syntax_tree_cut.specs.declared.mark.Mark.{Mark}
use Rattle.syntax_tree_cut.specs.Cuts.{CutForm}
use Rattle.syntax_tree_cut.specs.inner.Cuts.{ReplacementsRise}
use Rattle.syntax_tree_cut.proofs.CutFacts.{facts_of}
use Rattle.syntax_tree_cut.proofs.Positions.{add_begin, add_end, add_next, replacements_rise, walk_within}
use Rattle.syntax_tree_cut.proofs.cut.Cut.push_children.Goals as goal

pub bounds-nodes-node : goal.bounds-nodes-node
bounds-nodes-node c =
    subst (λ (l : List Node). c.args.node < length l) (sym c.nodes-nodes.ensures.nodes)
    (facts_of c.args.tree.now c.tree_laws.ensures c.nodes-nodes.ensures.whole c.args.self.now c.requires.of c.args.node c.requires.left).2.node

pub overflow_add-position : goal.overflow_add-position
overflow_add-position c =
    let it = facts_of c.args.tree.now c.tree_laws.ensures c.nodes-nodes.ensures.whole c.args.self.now c.requires.of c.args.node c.requires.left in
    let lt = it.2.node in
    let few = c.nodes-nodes.ensures.few in
    let same = ap length c.nodes-nodes.ensures.nodes in
    omega (arith, lt, few, same)

pub loop-remaining-init : goal.loop-remaining-init
loop-remaining-init c =
    let it = facts_of c.args.tree.now c.tree_laws.ensures c.nodes-nodes.ensures.whole c.args.self.now c.requires.of c.args.node c.requires.left in
    add_begin c.args.tree.now c.tree_laws.ensures c.nodes-nodes.ensures.whole c.args.self.now c.requires.of c.args.node it.0 c.nodes-nodes.result.now _
    c.args.into.now.items it.1 c.nodes-nodes.ensures.nodes it.2.node

pub push_occupant-requires-clause-node : goal.push_occupant-requires-clause-node
push_occupant-requires-clause-node c =
    subst (λ (l : List Mark). c.loop-remaining.position < length l) (sym (c.as_slice.ensures.value ∙ ap (λ (f : CutForm). f.marks) c.self.view_is))
    (walk_within c.args.tree.now c.tree_laws.ensures c.nodes-nodes.ensures.whole c.args.self.now c.requires.of c.args.node c.loop-remaining.position
    c.loop-remaining.remaining c.loop-remaining.invariant.done c.loop-remaining.invariant.walk c.loop-remaining-test.true).0

pub push_occupant-requires-clause-rise : goal.push_occupant-requires-clause-rise
push_occupant-requires-clause-rise c =
    subst (λ (l : List Mark). ReplacementsRise l) (sym (c.as_slice.ensures.value ∙ ap (λ (f : CutForm). f.marks) c.self.view_is))
    (replacements_rise c.args.tree.now c.tree_laws.ensures c.nodes-nodes.ensures.whole c.args.self.now c.requires.of)

pub after-position-requires : goal.after-position-requires
after-position-requires c =
    (walk_within c.args.tree.now c.tree_laws.ensures c.nodes-nodes.ensures.whole c.args.self.now c.requires.of c.args.node c.loop-remaining.position
    c.loop-remaining.remaining c.loop-remaining.invariant.done c.loop-remaining.invariant.walk c.loop-remaining-test.true).1

pub loop-remaining-preserved : goal.loop-remaining-preserved
loop-remaining-preserved c =
    let pushed = c.in_ok-push_occupant.ensures in
    let after = c.after-position.ensures in
    add_next c.args.tree.now c.tree_laws.ensures c.nodes-nodes.ensures.whole c.args.self.now c.requires.of c.args.node c.loop-remaining.position
    c.after-position.result c.loop-remaining.remaining c.args.into.now.items c.loop-remaining.into.items c.push_occupant.new.into.items
    c.loop-remaining.invariant c.loop-remaining-test.true pushed.0
    (c.as_slice.ensures.value ∙ ap (λ (f : CutForm). f.marks) c.self.view_is) pushed.1 pushed.2 after.0 after.1 after.2

pub returns : goal.returns
returns c = λ u e.
    let end = c.loop-remaining-test.false in
    add_end c.args.tree.now c.tree_laws.ensures c.nodes-nodes.ensures.whole c.args.self.now c.requires.of c.args.node c.loop-remaining.position
    c.loop-remaining.remaining c.args.into.now.items c.loop-remaining.into.items u c.loop-remaining.invariant (omega (arith, end)) e
