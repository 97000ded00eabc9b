use Rattle.std.proofs.Common.{◌+◌, arith}
use Rattle.std.specs.Option.{option_and_then}
use Rattle.syntax_tree.specs.Trees.{size}
use Rattle.syntax_tree.specs.Numbered.{subtree}
use Rattle.syntax_tree.specs.Nodes.{whole}
use Rattle.syntax_tree_cut.specs.Cuts.{left_at}
use Rattle.syntax_tree_cut.proofs.Ways.{ahead_begins, ahead_within, node_there, none_sought, not_begun, outside_of}
use Rattle.syntax_tree_cut.proofs.way.leads_to.Goals as goal

pub returns-then-not-has_number : goal.returns-then-not-has_number
returns-then-not-has_number c =
    let there = node_there c.args.tree.now c.tree_laws.ensures c.nodes-nodes.ensures.whole c.args.marks.now c.args.from c.requires.from in
    none_sought (option_and_then (subtree c.args.node) (left_at c.args.marks.now c.args.from (whole c.args.tree.now)))
    (not_begun c.args.tree.now c.tree_laws.ensures c.nodes-nodes.ensures.whole c.args.marks.now c.args.node c.args.from there.0 there.1
    (outside_of c.has_number.result c.args.node c.args.from (c.args.from + size there.0) (c.has_number.ensures there.0 there.1) c.if-not-has_number.true))

pub way-init : goal.way-init
way-init c =
    let there = node_there c.args.tree.now c.tree_laws.ensures c.nodes-nodes.ensures.whole c.args.marks.now c.args.from c.requires.from in
    let inside = (c.has_number.ensures there.0 there.1).0 c.if-not-has_number.false in
    ahead_begins c.args.tree.now c.tree_laws.ensures c.nodes-nodes.ensures.whole c.args.marks.now c.args.node c.args.from there.0 there.1 inside.0 inside.1

pub returns-in-Lost : goal.returns-in-Lost
returns-in-Lost c =
    none_sought (option_and_then (subtree c.args.node) (left_at c.args.marks.now c.args.from (whole c.args.tree.now)))
    (c.in-Lost.ensures (option_and_then (subtree c.args.node) (left_at c.args.marks.now c.args.from (whole c.args.tree.now))) c.way.invariant)

pub way-smaller : goal.way-smaller
way-smaller c =
    let before =
    ahead_within c.args.tree.now c.tree_laws.ensures c.nodes-nodes.ensures.whole c.args.marks.now c.args.node
    (option_and_then (subtree c.args.node) (left_at c.args.marks.now c.args.from (whole c.args.tree.now))) c.way.position c.way.invariant in
    let later = (c.in-At.ensures (option_and_then (subtree c.args.node) (left_at c.args.marks.now c.args.from (whole c.args.tree.now))) c.way.invariant).0 in
    omega (arith, before, later)
