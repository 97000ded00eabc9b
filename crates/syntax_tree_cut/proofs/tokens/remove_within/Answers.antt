use Rattle.std.proofs.Common.{ℕ, List, ◌++◌, drop, ap, ◌∙◌, subst}
use Rattle.syntax_tree_cut.specs.inner.Tokens.{IsSplitAt, before}
use Rattle.syntax_tree_cut.proofs.Splits.{drop_is, take_is}
use Rattle.syntax_tree_cut.proofs.tokens.remove_within.Goals as goal

pub returns : goal.returns
returns c =
    let xs : List ℕ = c.args.tokens.now.items in
    let at = subst (λ (l : List ℕ). IsSplitAt l c.args.node.now.first c.count_before-from.result) c.deref.ensures.value c.count_before-from.ensures in
    let to = subst (λ (l : List ℕ). IsSplitAt l c.args.node.now.end c.count_before-to.result) c.deref-2.ensures.value c.count_before-to.ensures in
    c.remove_between.ensures
    ∙ ap (λ (l : List ℕ). l ++ drop c.count_before-to.result xs) (take_is xs c.args.node.now.first c.count_before-from.result at)
    ∙ ap (λ (l : List ℕ). before c.args.node.now.first xs ++ l) (drop_is xs c.args.node.now.end c.count_before-to.result to)
