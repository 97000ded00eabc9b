use Rattle.std.proofs.Common.{ℕ, ◌-◌, ◌<◌, List, [], length, sym, ap, ◌∙◌, subst, arith, refl}
use Rattle.syntax_tree.specs.declared.node.Node.{Node}
use Rattle.syntax_tree_cut.specs.declared.mark.Mark.{Mark}
use Rattle.syntax_tree_cut.specs.Cuts.{CutForm, IsOccupant}
use Rattle.syntax_tree_cut.specs.inner.Cuts.{ReplacementsRise}
use Rattle.syntax_tree_cut.proofs.CutFacts.{facts_of}
use Rattle.syntax_tree_cut.proofs.Positions.{replacements_rise, walk_begin_at, walk_within}
use Rattle.syntax_tree_cut.proofs.Questions.{IsSeenSoFar, nothing_seen, seen_all, seen_next}
use Rattle.syntax_tree_cut.proofs.cut.Cut.count_children.Goals as goal

pub bounds-nodes-node : goal.bounds-nodes-node
bounds-nodes-node c =
    subst (λ (l : List Node). c.args.node < length l) (sym c.nodes-nodes.ensures.nodes)
    (facts_of c.args.tree.now c.tree_laws.ensures c.nodes-nodes.ensures.whole c.args.self.now c.requires.of c.args.node c.requires.left).2.node

pub overflow_add-position : goal.overflow_add-position
overflow_add-position c =
    let it = facts_of c.args.tree.now c.tree_laws.ensures c.nodes-nodes.ensures.whole c.args.self.now c.requires.of c.args.node c.requires.left in
    let lt = it.2.node in
    let few = c.nodes-nodes.ensures.few in
    let same = ap length c.nodes-nodes.ensures.nodes in
    omega (arith, lt, few, same)

pub loop-remaining-init : goal.loop-remaining-init
loop-remaining-init c =
    let it = facts_of c.args.tree.now c.tree_laws.ensures c.nodes-nodes.ensures.whole c.args.self.now c.requires.of c.args.node c.requires.left in
    record {
      done = [];
      walk =
          walk_begin_at c.args.tree.now c.tree_laws.ensures c.nodes-nodes.ensures.whole c.args.self.now c.requires.of c.args.node it.0 c.nodes-nodes.result.now
          _ [] it.1 c.nodes-nodes.ensures.nodes it.2.node refl;
      seen_so_far = nothing_seen c.args.child;
      few = omega arith;
    }

pub occupant-requires-clause-node : goal.occupant-requires-clause-node
occupant-requires-clause-node c =
    subst (λ (l : List Mark). c.loop-remaining.position < length l) (sym (c.as_slice.ensures.value ∙ ap (λ (f : CutForm). f.marks) c.self.view_is))
    (walk_within c.args.tree.now c.tree_laws.ensures c.nodes-nodes.ensures.whole c.args.self.now c.requires.of c.args.node c.loop-remaining.position
    c.loop-remaining.remaining c.loop-remaining.invariant.done c.loop-remaining.invariant.walk c.loop-remaining-test.true).0

pub occupant-requires-clause-rise : goal.occupant-requires-clause-rise
occupant-requires-clause-rise c =
    subst (λ (l : List Mark). ReplacementsRise l) (sym (c.as_slice.ensures.value ∙ ap (λ (f : CutForm). f.marks) c.self.view_is))
    (replacements_rise c.args.tree.now c.tree_laws.ensures c.nodes-nodes.ensures.whole c.args.self.now c.requires.of)

pub with_occupant-seen-requires : goal.with_occupant-seen-requires
with_occupant-seen-requires c =
    let within =
    (walk_within c.args.tree.now c.tree_laws.ensures c.nodes-nodes.ensures.whole c.args.self.now c.requires.of c.args.node c.loop-remaining.position
    c.loop-remaining.remaining c.loop-remaining.invariant.done c.loop-remaining.invariant.walk c.loop-remaining-test.true).1 in
    let few = c.nodes-nodes.ensures.few in
    let same = ap length c.nodes-nodes.ensures.nodes in
    let less = c.loop-remaining.invariant.few in
    omega (arith, within, few, same, less)

pub after-position-requires : goal.after-position-requires
after-position-requires c =
    (walk_within c.args.tree.now c.tree_laws.ensures c.nodes-nodes.ensures.whole c.args.self.now c.requires.of c.args.node c.loop-remaining.position
    c.loop-remaining.remaining c.loop-remaining.invariant.done c.loop-remaining.invariant.walk c.loop-remaining-test.true).1

pub loop-remaining-preserved : goal.loop-remaining-preserved
loop-remaining-preserved c =
    let after = c.after-position.ensures in
    subst (λ (p : ℕ). IsSeenSoFar c.args.tree.now c.args.self.now c.args.node p (c.loop-remaining.remaining - 1) c.args.child c.with_occupant-seen.result)
    (sym after.2)
    (seen_next c.args.tree.now c.tree_laws.ensures c.nodes-nodes.ensures.whole c.args.self.now c.requires.of c.args.node c.loop-remaining.position
    c.loop-remaining.remaining c.args.child c.loop-remaining.seen c.with_occupant-seen.result c.loop-remaining.invariant c.loop-remaining-test.true
    c.occupant.result
    (subst (λ (l : List Mark). IsOccupant l c.loop-remaining.position c.occupant.result)
    (c.as_slice.ensures.value ∙ ap (λ (f : CutForm). f.marks) c.self.view_is) c.occupant.ensures)
    after.0 after.1 (c.with_occupant-seen.ensures.seen c.loop-remaining.invariant.done c.loop-remaining.invariant.seen_so_far) c.with_occupant-seen.ensures.few)

pub returns : goal.returns
returns c =
    let end = c.loop-remaining-test.false in
    λ u e. seen_all c.args.tree.now c.tree_laws.ensures c.nodes-nodes.ensures.whole c.args.self.now c.requires.of c.args.node c.loop-remaining.position
    c.loop-remaining.remaining c.args.child c.loop-remaining.seen u c.loop-remaining.invariant (omega (arith, end)) e
