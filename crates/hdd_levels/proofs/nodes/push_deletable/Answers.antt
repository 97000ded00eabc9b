use Rattle.std.proofs.Common.{◌≡◌, ◌++◌, ℕ, List, Some, length, map, sym, ap, ◌∙◌, arith, length-append}
use Rattle.std.proofs.lemmas.List.{length-map}
use Rattle.syntax_tree.specs.Trees.{PlainTree, children_of}
use Rattle.syntax_tree.specs.Numbered.{number_of, roots, subtree}
use Rattle.syntax_tree.specs.Nodes.{AreNodesOf, SyntaxTree, whole}
use Rattle.syntax_tree_cut.specs.Cuts.{CutForm, IsCutOf, cut_tree}
use Rattle.syntax_tree_cut.proofs.Lent.{some_of}
use Rattle.descend_replace.specs.LevelLaws.{list_of}
use Rattle.descend_replace.proofs.Lent.{children_are}
use Rattle.hdd_levels.specs.declared.level_nodes.Elements.{Elements}
use Rattle.hdd_levels.specs.Levels.{deletable_children}
use Rattle.hdd_levels.specs.inner.LevelForms.{AreNodesIn, with_leaves_in}
use Rattle.hdd_levels.proofs.FoundNodes.{as_many_children, children_found, cut_rising, losing_children, plus_is, shape_is}
use Rattle.hdd_levels.proofs.nodes.push_deletable.Goals as goal

-- the children that a call gave
listed : (tree : SyntaxTree) → AreNodesOf tree.form tree.start tree.nodes (whole tree) → (d : CutForm) → IsCutOf tree d → (q : ℕ) (u : PlainTree)
    → subtree q (cut_tree tree d) ≡ Some u → (items : List ℕ) → items ≡ roots (children_of u) → AreNodesIn (cut_tree tree d) items (list_of (children_of u))
listed tree are d of q u e items is = let h = cut_rising tree are d of in children_found 0 h.0 q (cut_tree tree d) u h.1 e items is

pub push_with_tokens-requires-clause-nodes : goal.push_with_tokens-requires-clause-nodes
push_with_tokens-requires-clause-nodes c =
    let u = some_of (subtree c.args.node (cut_tree c.args.tree.now c.args.cut.now)) c.requires.left in
    let is = children_are (subtree c.args.node (cut_tree c.args.tree.now c.args.cut.now)) c.in_ok-children.children.items u.0 c.in_ok-children.ensures u.1 in (
      list_of (children_of u.0),
      listed c.args.tree.now c.nodes-nodes.ensures.whole c.args.cut.now c.requires.of c.args.node u.0 u.1 c.as_slice.result.now
          (c.as_slice.ensures.value ∙ is),
    )

pub push_plus-requires : goal.push_plus-requires
push_plus-requires c =
    let u = some_of (subtree c.args.node (cut_tree c.args.tree.now c.args.cut.now)) c.requires.left in
    let is = children_are (subtree c.args.node (cut_tree c.args.tree.now c.args.cut.now)) c.in_ok-children.children.items u.0 c.in_ok-children.ensures u.1 in
    let are =
    listed c.args.tree.now c.nodes-nodes.ensures.whole c.args.cut.now c.requires.of c.args.node u.0 u.1 c.as_slice.result.now (c.as_slice.ensures.value ∙ is) in
    let long = ap length (c.in_ok-push_with_tokens.ensures (list_of (children_of u.0)) are) in
    let both = length-append c.args.into.now.items (map number_of (with_leaves_in (list_of (children_of u.0)))) in
    let from = c.len-from.ensures in
    let end = c.len-2.ensures in
    omega (arith, long, both, from, end)

pub returns-clause-nodes : goal.returns-clause-nodes
returns-clause-nodes c = λ u e.
    let is = children_are (subtree c.args.node (cut_tree c.args.tree.now c.args.cut.now)) c.in_ok-children.children.items u c.in_ok-children.ensures e in
    let are =
    listed c.args.tree.now c.nodes-nodes.ensures.whole c.args.cut.now c.requires.of c.args.node u e c.as_slice.result.now (c.as_slice.ensures.value ∙ is) in
    let fits = shape_is c.args.tree.now.form (subtree c.args.node (cut_tree c.args.tree.now c.args.cut.now)) u c.shape-shape.result e c.shape-shape.ensures in
    c.in_ok-push_with_tokens.ensures (list_of (children_of u)) are
    ∙ ap (λ (l : List PlainTree). c.args.into.now.items ++ map number_of l)
    (losing_children c.args.tree.now.form u c.shape-shape.result fits (sym c.loses_children.ensures ∙ c.if-not-loses_children.false))

pub returns-clause-pluses : goal.returns-clause-pluses
returns-clause-pluses c = λ u e.
    let is = children_are (subtree c.args.node (cut_tree c.args.tree.now c.args.cut.now)) c.in_ok-children.children.items u c.in_ok-children.ensures e in
    let are = listed c.args.tree.now c.nodes-nodes.ensures.whole c.args.cut.now c.requires.of c.args.node u e c.as_slice.result.now
    (c.as_slice.ensures.value ∙ is) in
    let fits = shape_is c.args.tree.now.form (subtree c.args.node (cut_tree c.args.tree.now c.args.cut.now)) u c.shape-shape.result e c.shape-shape.ensures in
    let own : List PlainTree = deletable_children c.args.tree.now.form u in
    let nodes : c.push_with_tokens.new.into.items ≡ c.args.into.now.items ++ map number_of own =
    c.in_ok-push_with_tokens.ensures (list_of (children_of u)) are
    ∙ ap (λ (l : List PlainTree). c.args.into.now.items ++ map number_of l)
    (losing_children c.args.tree.now.form u c.shape-shape.result fits (sym c.loses_children.ensures ∙ c.if-not-loses_children.false)) in
    let long = ap length nodes ∙ length-append c.args.into.now.items (map number_of own) in
    let many = length-map own number_of in
    let end = c.len-2.ensures in
    let from = c.len-from.ensures in
    let count_is = c.len.ensures in
    let children = ap length is ∙ as_many_children (children_of u) in
    c.in_ok-push_plus.ensures
    ∙ ap (λ (l : List Elements). c.args.pluses.now.items ++ l)
    (plus_is c.args.tree.now.form u c.shape-shape.result fits c.len-from.result c.len-2.result c.len.result (length c.args.into.now.items) (omega (arith, from))
    (omega (arith, long, many, end)) (omega (arith, count_is, children)))
