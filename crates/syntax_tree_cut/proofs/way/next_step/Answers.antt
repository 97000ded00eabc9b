use Rattle.std.proofs.Common.{ℕ, ◌+◌, Option, sym, ap, ◌∙◌, subst, arith}
use Rattle.std.specs.Option.{option_and_then}
use Rattle.syntax_tree.specs.Trees.{PlainTree, size}
use Rattle.syntax_tree.specs.Numbered.{subtree}
use Rattle.syntax_tree_cut.specs.declared.mark.Mark.TheVariants.{Kept, Deleted, Replaced}
use Rattle.syntax_tree_cut.specs.inner.Ways.{IsAhead}
use Rattle.syntax_tree_cut.proofs.CutFacts.{some_size}
use Rattle.syntax_tree_cut.proofs.Ways.{ahead_begins, ahead_below, ahead_first, ahead_past, ahead_within, deleted_lost}
use Rattle.syntax_tree_cut.proofs.Ways.{kept_here, mark_known, not_begun, outside_of, replaced_by}
use Rattle.syntax_tree_cut.proofs.way.next_step.Goals as goal

pub after-after-requires : goal.after-after-requires
after-after-requires c =
    ahead_within c.args.tree.now c.tree_laws.ensures c.nodes-nodes.ensures.whole c.args.marks.now c.args.node c.requires.ahead.0 c.args.position
    c.requires.ahead.1

pub returns-then-after-node : goal.returns-then-after-node
returns-then-after-node c =
    λ sought ahead.
    let after = c.after-after.ensures in
    let some = some_size after.0 in
    let end = after.2 in
    let past = c.if-after-node.true in (
      omega (arith, some, end),
      subst (λ (p : ℕ). IsAhead c.args.tree.now c.args.marks.now c.args.node sought p) (sym end)
          (ahead_past c.args.tree.now c.tree_laws.ensures c.nodes-nodes.ensures.whole c.args.marks.now c.args.node sought c.args.position after.0 after.1
          (omega (arith, end, past)) ahead),
    )

pub bounds : goal.bounds
bounds c =
    let within =
    ahead_within c.args.tree.now c.tree_laws.ensures c.nodes-nodes.ensures.whole c.args.marks.now c.args.node c.requires.ahead.0 c.args.position
    c.requires.ahead.1 in
    let long = c.requires.marks in
    omega (arith, within, long)

pub has_number-requires : goal.has_number-requires
has_number-requires c =
    let within = ahead_within c.args.tree.now c.tree_laws.ensures c.nodes-nodes.ensures.whole c.args.marks.now c.args.node c.requires.ahead.0 c.args.position
    c.requires.ahead.1 in
    let long = c.requires.marks in
    let mark = mark_known c.args.marks.now c.args.position _ (Replaced c.in-Replaced.by) c.in-Replaced.is (omega (arith, within, long)) in
    (replaced_by c.args.tree.now c.tree_laws.ensures c.nodes-nodes.ensures.whole c.args.marks.now c.requires.down c.args.position c.in-Replaced.by
    c.after-after.ensures.0 c.after-after.ensures.1 mark).node

pub returns-then-has_number : goal.returns-then-has_number
returns-then-has_number c =
    λ sought ahead.
    let within = ahead_within c.args.tree.now c.tree_laws.ensures c.nodes-nodes.ensures.whole c.args.marks.now c.args.node c.requires.ahead.0
    c.args.position c.requires.ahead.1 in
    let long = c.requires.marks in
    let end = c.after-after.ensures.2 in
    let before = c.if-after-node.false in
    let mark = mark_known c.args.marks.now c.args.position _ (Replaced c.in-Replaced.by) c.in-Replaced.is (omega (arith, within, long)) in
    let first =
    ahead_first c.args.tree.now c.tree_laws.ensures c.nodes-nodes.ensures.whole c.args.marks.now c.args.node sought c.args.position c.after-after.ensures.0
    c.after-after.ensures.1 (omega (arith, end, before)) ahead in
    let other =
    replaced_by c.args.tree.now c.tree_laws.ensures c.nodes-nodes.ensures.whole c.args.marks.now c.requires.down c.args.position c.in-Replaced.by
    c.after-after.ensures.0 c.after-after.ensures.1 mark in
    let inside = (c.has_number.ensures other.other other.other_is).0 c.if-has_number.true in (
      other.later,
      subst (λ (o : Option PlainTree). IsAhead c.args.tree.now c.args.marks.now c.args.node o c.in-Replaced.by)
          (sym (first.0 ∙ ap (option_and_then (subtree c.args.node)) other.leaves))
          (ahead_begins c.args.tree.now c.tree_laws.ensures c.nodes-nodes.ensures.whole c.args.marks.now c.args.node c.in-Replaced.by other.other other.other_is
          inside.0 inside.1),
    )

pub returns-else-has_number : goal.returns-else-has_number
returns-else-has_number c =
    λ sought ahead.
    let within = ahead_within c.args.tree.now c.tree_laws.ensures c.nodes-nodes.ensures.whole c.args.marks.now c.args.node
    c.requires.ahead.0 c.args.position c.requires.ahead.1 in
    let long = c.requires.marks in
    let end = c.after-after.ensures.2 in
    let before = c.if-after-node.false in
    let mark = mark_known c.args.marks.now c.args.position _ (Replaced c.in-Replaced.by) c.in-Replaced.is (omega (arith, within, long)) in
    let first = ahead_first c.args.tree.now c.tree_laws.ensures c.nodes-nodes.ensures.whole c.args.marks.now c.args.node sought c.args.position
    c.after-after.ensures.0 c.after-after.ensures.1 (omega (arith, end, before)) ahead in
    let other = replaced_by c.args.tree.now c.tree_laws.ensures c.nodes-nodes.ensures.whole c.args.marks.now c.requires.down c.args.position c.in-Replaced.by
    c.after-after.ensures.0 c.after-after.ensures.1 mark in
    first.0 ∙ ap (option_and_then (subtree c.args.node)) other.leaves
    ∙ not_begun c.args.tree.now c.tree_laws.ensures c.nodes-nodes.ensures.whole c.args.marks.now c.args.node c.in-Replaced.by other.other other.other_is
    (outside_of c.has_number.result c.args.node c.in-Replaced.by (c.in-Replaced.by + size other.other)
    (c.has_number.ensures other.other other.other_is) c.if-has_number.false)

pub returns-in-Deleted : goal.returns-in-Deleted
returns-in-Deleted c =
    λ sought ahead.
    let within = ahead_within c.args.tree.now c.tree_laws.ensures c.nodes-nodes.ensures.whole c.args.marks.now
    c.args.node c.requires.ahead.0 c.args.position c.requires.ahead.1 in
    let long = c.requires.marks in
    let end = c.after-after.ensures.2 in
    let before = c.if-after-node.false in
    let first = ahead_first c.args.tree.now c.tree_laws.ensures c.nodes-nodes.ensures.whole c.args.marks.now c.args.node sought
    c.args.position c.after-after.ensures.0 c.after-after.ensures.1 (omega (arith, end, before)) ahead in
    deleted_lost c.args.tree.now c.tree_laws.ensures c.nodes-nodes.ensures.whole c.args.marks.now c.args.node sought c.args.position c.after-after.ensures.0
    c.after-after.ensures.1 (mark_known c.args.marks.now c.args.position _ Deleted c.in-Deleted.is (omega (arith, within, long))) first.0

pub returns-then-position-node : goal.returns-then-position-node
returns-then-position-node c =
    λ sought ahead.
    let within = ahead_within c.args.tree.now c.tree_laws.ensures c.nodes-nodes.ensures.whole
    c.args.marks.now c.args.node c.requires.ahead.0 c.args.position c.requires.ahead.1 in
    let long = c.requires.marks in
    let end = c.after-after.ensures.2 in
    let before = c.if-after-node.false in
    let first = ahead_first c.args.tree.now c.tree_laws.ensures c.nodes-nodes.ensures.whole c.args.marks.now c.args.node
    sought c.args.position c.after-after.ensures.0 c.after-after.ensures.1 (omega (arith, end, before)) ahead in
    kept_here c.args.tree.now c.tree_laws.ensures c.nodes-nodes.ensures.whole c.args.marks.now c.args.node sought c.args.position c.after-after.ensures.0
    c.if-position-node.true c.after-after.ensures.1 (mark_known c.args.marks.now c.args.position _ Kept c.in-Kept.is (omega (arith, within, long))) first.0

pub returns-else-position-node : goal.returns-else-position-node
returns-else-position-node c =
    λ sought ahead.
    let within = ahead_within c.args.tree.now c.tree_laws.ensures
    c.nodes-nodes.ensures.whole c.args.marks.now c.args.node c.requires.ahead.0 c.args.position c.requires.ahead.1 in
    let long = c.requires.marks in
    let end = c.after-after.ensures.2 in
    let before = c.if-after-node.false in
    let first =
    ahead_first c.args.tree.now c.tree_laws.ensures c.nodes-nodes.ensures.whole c.args.marks.now c.args.node sought c.args.position c.after-after.ensures.0
    c.after-after.ensures.1 (omega (arith, end, before)) ahead in (
      omega arith,
      ahead_below c.args.tree.now c.tree_laws.ensures c.nodes-nodes.ensures.whole c.args.marks.now c.args.node sought c.args.position c.after-after.ensures.0
          c.after-after.ensures.1 (mark_known c.args.marks.now c.args.position _ Kept c.in-Kept.is (omega (arith, within, long))) c.if-position-node.false
          first.1 first.0,
    )
