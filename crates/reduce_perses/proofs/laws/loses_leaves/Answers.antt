use Rattle.reduce_perses.proofs.Rounds as lemmas
use Rattle.reduce_perses.proofs.laws.loses_leaves.Goals as goal

pub returns : goal.returns
returns c = lemmas.loses_leaves c.elements_have_tokens.ensures
