use Rattle.std.proofs.Common.{List, ℕ, Some, ◌++◌, sym, ap, ◌∙◌}
use Rattle.std.specs.Option.{option_map}
use Rattle.syntax_tree.specs.Trees.{PlainTree, children_of}
use Rattle.syntax_tree.specs.Numbered.{roots, subtree}
use Rattle.syntax_tree_cut.specs.Cuts.{cut_tree}
use Rattle.syntax_tree_cut.proofs.CutFacts.{some_of}
use Rattle.syntax_tree_cut.proofs.cut.Cut.children.Goals as goal

pub returns : goal.returns
returns c =
    let it = some_of (subtree c.args.node (cut_tree c.args.tree.now c.args.self.now)) c.requires.left in
    ap (option_map (λ (t : PlainTree). roots (children_of t))) it.1
    ∙ ap Some (sym (c.in_ok-push_children.ensures it.0 it.1 ∙ ap (λ (l : List ℕ). l ++ roots (children_of it.0)) c.new-children.ensures.items))
