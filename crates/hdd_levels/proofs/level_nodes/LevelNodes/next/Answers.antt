use Rattle.std.proofs.Common.{suc, length, sym, ◌∙◌, arith, vec_len}
use Rattle.std.proofs.lemmas.Bool.{eqb-false, eqb-true}
use Rattle.syntax_tree.specs.Trees.{PlainTree}
use Rattle.syntax_tree.specs.Levels.{at_depth}
use Rattle.syntax_tree_cut.specs.Cuts.{cut_tree}
use Rattle.hdd_levels.proofs.FoundNodes.{cut_rising}
use Rattle.hdd_levels.proofs.Depths.{depth_nodes, lower_numbers, next_level, not_deep, some_long}
use Rattle.hdd_levels.proofs.level_nodes.LevelNodes.next.Goals as goal

pub children_of_nodes-requires-clause-nodes : goal.children_of_nodes-requires-clause-nodes
children_of_nodes-requires-clause-nodes c =
    let h = cut_rising c.args.tree.now c.nodes-nodes.ensures.whole c.args.cut.now c.requires.of in (
      at_depth c.requires.parents.0 (cut_tree c.args.tree.now c.args.cut.now),
      depth_nodes c.requires.parents.0 0 h.0 (cut_tree c.args.tree.now c.args.cut.now) h.1 c.as_slice.result.now
          (c.as_slice.ensures.value ∙ c.in_ok-parents.ensures c.requires.parents.0 c.requires.parents.1),
    )

pub below-requires-clause-parents : goal.below-requires-clause-parents
below-requires-clause-parents c =
    let h = cut_rising c.args.tree.now c.nodes-nodes.ensures.whole c.args.cut.now c.requires.of in (
      at_depth c.requires.parents.0 (cut_tree c.args.tree.now c.args.cut.now),
      depth_nodes c.requires.parents.0 0 h.0 (cut_tree c.args.tree.now c.args.cut.now) h.1 c.in_ok-parents.parents.items
          (c.in_ok-parents.ensures c.requires.parents.0 c.requires.parents.1),
    )

pub returns-then-is_empty : goal.returns-then-is_empty
returns-then-is_empty c = λ d e.
    let t : PlainTree = cut_tree c.args.tree.now c.args.cut.now in
    let h = cut_rising c.args.tree.now c.nodes-nodes.ensures.whole c.args.cut.now c.requires.of in
    let are = depth_nodes d 0 h.0 t h.1 c.as_slice.result.now (c.as_slice.ensures.value ∙ c.in_ok-parents.ensures d e) in
    not_deep (suc d) t c.in_ok-below.below.items (lower_numbers d t c.in_ok-below.below.items (c.in_ok-below.ensures (at_depth d t) are))
    (let none = eqb-true (vec_len c.in_ok-below.below) 0 (sym c.is_empty.ensures ∙ c.if-is_empty.true) in omega (arith, none))

pub returns : goal.returns
returns c = λ d e.
    let t : PlainTree = cut_tree c.args.tree.now c.args.cut.now in
    let h = cut_rising c.args.tree.now c.nodes-nodes.ensures.whole c.args.cut.now c.requires.of in
    let sliced = depth_nodes d 0 h.0 t h.1 c.as_slice.result.now (c.as_slice.ensures.value ∙ c.in_ok-parents.ensures d e) in
    let are = depth_nodes d 0 h.0 t h.1 c.in_ok-parents.parents.items (c.in_ok-parents.ensures d e) in
    next_level c.args.tree.now.form d t c.in_ok-next.next c.in_ok-parents.parents.items c.in_ok-below.below.items
    (c.in_ok-parents.ensures d e) c.in_ok-next.ensures.parents (c.in_ok-next.ensures.nodes (at_depth d t) are) (c.in_ok-next.ensures.pluses (at_depth d t) are)
    (c.in_ok-below.ensures (at_depth d t) sliced)
    (some_long (vec_len c.in_ok-below.below) (length c.in_ok-below.below.items)
    (eqb-false (vec_len c.in_ok-below.below) 0 (sym c.is_empty.ensures ∙ c.if-is_empty.false)) (omega arith))
