use Rattle.reduce_trees_input.proofs.Inputs as lemma
use Rattle.reduce_trees_input.proofs.laws.inputs_are_in_language.Goals as goal

pub returns : goal.returns
returns c = lemma.inputs_are_in_language c.equal_languages.ensures c.valid_trees_are_derived.ensures
