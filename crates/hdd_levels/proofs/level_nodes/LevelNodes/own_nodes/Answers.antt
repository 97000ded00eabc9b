use Rattle.std.proofs.Common.{◌≡◌, ℕ, Some, map, sym, ap, ◌∙◌, subst}
use Rattle.std.specs.Option.{option_map}
use Rattle.std.specs.Global.{Vec}
use Rattle.syntax_tree.specs.Trees.{PlainTree}
use Rattle.syntax_tree.specs.Numbered.{number_of}
use Rattle.syntax_tree.specs.Levels.{at_depth}
use Rattle.syntax_tree_cut.specs.Cuts.{cut_tree}
use Rattle.hdd_levels.specs.LevelForms.{LevelForm}
use Rattle.hdd_levels.proofs.FoundNodes.{cut_rising}
use Rattle.hdd_levels.proofs.Depths.{above_is, depth_nodes, lower_numbers}
use Rattle.hdd_levels.proofs.level_nodes.LevelNodes.own_nodes.Goals as goal

pub children_of_nodes-requires-clause-nodes : goal.children_of_nodes-requires-clause-nodes
children_of_nodes-requires-clause-nodes c =
    let h = cut_rising c.args.tree.now c.nodes-nodes.ensures.whole c.args.cut.now c.requires.of in
    let items : Some c.in-Some.parents.items ≡ c.args.self.now.parents =
    ap (option_map (λ (v : Vec ℕ). v.items)) (sym c.in-Some.is) ∙ ap (λ (l : LevelForm). l.parents) c.self.view_is in
    let above = above_is c.requires.parents.0 (cut_tree c.args.tree.now c.args.cut.now) c.in-Some.parents.items (items ∙ c.requires.parents.1) in (
      at_depth above.0 (cut_tree c.args.tree.now c.args.cut.now),
      depth_nodes above.0 0 h.0 (cut_tree c.args.tree.now c.args.cut.now) h.1 c.as_slice.result.now (c.as_slice.ensures.value ∙ above.2),
    )

pub returns-in_ok-nodes-in-Some : goal.returns-in_ok-nodes-in-Some
returns-in_ok-nodes-in-Some c = λ d e.
    let t : PlainTree = cut_tree c.args.tree.now c.args.cut.now in
    let h = cut_rising c.args.tree.now c.nodes-nodes.ensures.whole c.args.cut.now c.requires.of in
    let items : Some c.in-Some.parents.items ≡ c.args.self.now.parents = ap (option_map (λ (v : Vec ℕ). v.items)) (sym c.in-Some.is)
    ∙ ap (λ (l : LevelForm). l.parents) c.self.view_is in
    let above = above_is d t c.in-Some.parents.items (items ∙ e) in
    let are = depth_nodes above.0 0 h.0 t h.1 c.as_slice.result.now (c.as_slice.ensures.value ∙ above.2) in
    subst (λ (n : ℕ). c.in_ok-nodes-in-Some.nodes.items ≡ map number_of (at_depth n t)) (sym above.1)
    (lower_numbers above.0 t c.in_ok-nodes-in-Some.nodes.items (c.in_ok-nodes-in-Some.ensures (at_depth above.0 t) are))
