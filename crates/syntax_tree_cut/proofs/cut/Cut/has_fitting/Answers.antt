use Rattle.syntax_tree_cut.proofs.Questions.{fitting_is}
use Rattle.syntax_tree_cut.proofs.cut.Cut.has_fitting.Goals as goal

pub returns : goal.returns
returns c =
    fitting_is c.args.tree.now.form c.args.tree.now.start _ c.args.node c.args.by c.fits.result c.args.compat.now c.symbol.result c.slot.result
    c.requires.compat (c.has_below.ensures.0 c.if-not-has_below.false) c.symbol.ensures c.slot.ensures c.fits.ensures
