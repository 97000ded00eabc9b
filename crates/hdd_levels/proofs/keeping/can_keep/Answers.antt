use Rattle.std.proofs.Common.{List, length, sym, ap, ◌∙◌, subst}
use Rattle.std.specs.List.{All, list_all}
use Rattle.syntax_tree_cut.specs.Cuts.{cut_tree}
use Rattle.hdd_levels.specs.declared.level_nodes.Elements.{Elements}
use Rattle.hdd_levels.specs.inner.LevelForms.{IsWithin, keeps_element}
use Rattle.hdd_levels.proofs.FoundNodes.{cut_rising}
use Rattle.hdd_levels.proofs.Depths.{elements_within, fills_are}
use Rattle.hdd_levels.proofs.keeping.can_keep.Goals as goal

pub keeps_elements-requires : goal.keeps_elements-requires
keeps_elements-requires c =
    let rises = cut_rising c.args.tree.now c.nodes-nodes.ensures.whole c.args.cut.now c.requires.of in
    subst (λ (es : List Elements). All (IsWithin (length c.args.keep.now)) es) (sym c.pluses.ensures)
    (elements_within c.args.tree.now.form c.args.tree.now.start
    (cut_tree c.args.tree.now c.args.cut.now) rises.0 rises.1 c.requires.of.fits.valid c.args.keep.now c.requires.level.0 c.args.level.now c.requires.level.1
    c.requires.each)

pub returns : goal.returns
returns c =
    let rises = cut_rising c.args.tree.now c.nodes-nodes.ensures.whole c.args.cut.now c.requires.of in
    c.keeps_elements.ensures
    ∙ ap (list_all (keeps_element c.args.keep.now)) c.pluses.ensures
    ∙ fills_are c.args.tree.now.form c.args.tree.now.start
    (cut_tree c.args.tree.now c.args.cut.now) rises.0 rises.1 c.requires.of.fits.valid c.args.keep.now c.requires.level.0 c.args.level.now c.requires.level.1
    c.requires.each
