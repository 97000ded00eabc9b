use Rattle.reduce_trees_mode.specs.inner.FormedProp.{well_formed_prop}
use Rattle.reduce_trees_mode.proofs.laws.well_formed_once.Goals as goal

pub returns : goal.returns
returns c = λ G start one other. well_formed_prop G start one other
