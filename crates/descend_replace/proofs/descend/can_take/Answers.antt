use Rattle.descend_replace.proofs.Found.{by_fits, by_weight, node_there}
use Rattle.descend_replace.proofs.descend.can_take.Goals as goal

pub bounds-nodes-node : goal.bounds-nodes-node
bounds-nodes-node c =
    node_there c.args.tree.now c.nodes.ensures.whole c.args.cut.now c.requires.of c.args.node c.requires.left c.nodes.result.now c.nodes.ensures.nodes

pub returns-then-fits : goal.returns-then-fits
returns-then-fits c =
    λ u e. by_weight c.args.tree.now c.nodes.ensures.whole c.args.cut.now c.requires.of c.args.node u e c.nodes.result.now _ c.nodes.ensures.nodes
    c.args.compat.now c.args.slot c.fits.result c.weight.result c.args.tokens c.requires.compat c.fits.ensures c.if-fits.true c.weight.ensures

pub returns-else-fits : goal.returns-else-fits
returns-else-fits c =
    λ u e. by_fits c.args.tree.now c.nodes.ensures.whole c.args.cut.now c.requires.of c.args.node u e c.nodes.result.now _ c.nodes.ensures.nodes
    c.args.compat.now c.args.slot c.fits.result c.args.tokens c.requires.compat c.fits.ensures c.if-fits.false
