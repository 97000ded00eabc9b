use Rattle.std.proofs.Common.{◌≡◌, ◌+◌, ◌<◌, Some, length, get_or, sym, ◌∙◌, subst, arith}
use Rattle.std.proofs.lemmas.Option.{get_or_from_slice_get, slice_get-get_or, slice_get_within}
use Rattle.syntax_tree.specs.Trees.{size}
use Rattle.syntax_tree.specs.Numbered.{subtree}
use Rattle.syntax_tree.specs.Nodes.{SyntaxTree, whole}
use Rattle.syntax_tree.proofs.Afters.{after_is, no_node}
use Rattle.syntax_tree.proofs.tree.Tree.after.Goals as goal

pub index-requires : goal.index-requires
index-requires c =
    let inside = c.self.inside in
    let nodes = inside.nodes.items in
    let node = c.args.node in
    let P : SyntaxTree → Type 0 = λ t. node < length t.nodes in
    let within : node < length nodes = subst P (sym c.self.view_is) c.requires in
    let it =
    after_is inside.normal inside.start nodes c.self.invariant.0 inside.after.items node (get_or nodes node no_node)
    (slice_get-get_or nodes node no_node within) c.self.invariant.2 in
    let has : node < length inside.after.items = slice_get_within inside.after.items node (node + size it.0) it.2 in
    omega (arith, has, inside.after.ok)

pub returns : goal.returns
returns c =
    let inside = c.self.inside in
    let nodes = inside.nodes.items in
    let node = c.args.node in
    let P : SyntaxTree → Type 0 = λ t. node < length t.nodes in
    let within : node < length nodes = subst P (sym c.self.view_is) c.requires in
    let it = after_is inside.normal inside.start nodes c.self.invariant.0 inside.after.items node (get_or nodes node no_node)
    (slice_get-get_or nodes node no_node within) c.self.invariant.2 in
    let Q : SyntaxTree → Type 0 = λ t. subtree node (whole t) ≡ Some it.0 in
    (it.0, subst Q c.self.view_is it.1, c.index.ensures ∙ get_or_from_slice_get inside.after.items node (node + size it.0) c.index.result.now it.2)
