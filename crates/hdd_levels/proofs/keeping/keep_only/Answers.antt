use Rattle.std.proofs.Common.{ℕ, List, Some, sym, ap, ◌∙◌, subst}
use Rattle.syntax_tree.specs.Trees.{PlainTree}
use Rattle.syntax_tree_cut.specs.Cuts.{cut_tree}
use Rattle.syntax_tree_cut.specs.WithoutNodes.{CanDrop, dropped, without_nodes}
use Rattle.hdd_levels.proofs.FoundNodes.{cut_rising}
use Rattle.hdd_levels.proofs.Depths.{can_drop, kept_by}
use Rattle.hdd_levels.proofs.keeping.keep_only.Goals as goal

pub returns-then-not-can_keep-clause-kept : goal.returns-then-not-can_keep-clause-kept
returns-then-not-can_keep-clause-kept c =
    kept_by c.args.tree.now.form c.args.level.now.nodes c.args.keep.now (cut_tree c.args.tree.now c.args.cut.now) _
    (sym c.can_keep.ensures ∙ c.if-not-can_keep.true)

pub keep_nodes-requires-clause-can : goal.keep_nodes-requires-clause-can
keep_nodes-requires-clause-can c =
    let rises = cut_rising c.args.tree.now c.nodes-nodes.ensures.whole c.args.cut.now c.requires.of in
    subst (λ (qs : List ℕ). CanDrop c.args.tree.now.form c.args.tree.now.start (cut_tree c.args.tree.now c.args.cut.now) (dropped qs c.args.keep.now))
    (sym c.nodes.ensures)
    (can_drop c.args.tree.now.form c.args.tree.now.start
    (cut_tree c.args.tree.now c.args.cut.now) rises.0 rises.1 c.requires.of.fits.valid c.args.keep.now c.requires.level.0 c.args.level.now c.requires.level.1
    (sym c.can_keep.ensures ∙ c.if-not-can_keep.false))

pub returns-clause-kept : goal.returns-clause-kept
returns-clause-kept c =
    kept_by c.args.tree.now.form c.args.level.now.nodes c.args.keep.now (cut_tree c.args.tree.now c.args.cut.now) _
    (sym c.can_keep.ensures ∙ c.if-not-can_keep.false)
    ∙ ap (λ qs. Some (without_nodes (dropped qs c.args.keep.now) (cut_tree c.args.tree.now c.args.cut.now))) (sym c.nodes.ensures)
    ∙ ap (λ (x : PlainTree). Some x) (sym c.keep_nodes.ensures.tree)
