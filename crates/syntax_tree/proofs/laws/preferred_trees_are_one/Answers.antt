use Rattle.syntax_tree.proofs.OneTree as lemma
use Rattle.syntax_tree.proofs.laws.preferred_trees_are_one.Goals as goal

pub returns : goal.returns
returns c = lemma.preferred_one c.spans_by_form.ensures
