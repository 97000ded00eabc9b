use Rattle.reduce_trees_input.proofs.Inputs as lemma
use Rattle.reduce_trees_input.proofs.laws.inputs_are_one.Goals as goal

pub returns : goal.returns
returns c = lemma.inputs_are_one c.tokens_are_unique.ensures c.preferred_trees_are_one.ensures c.well_formed_once.ensures
