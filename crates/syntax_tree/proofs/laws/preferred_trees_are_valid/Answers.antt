use Rattle.syntax_tree.proofs.PreferredTrees as lemma
use Rattle.syntax_tree.proofs.laws.preferred_trees_are_valid.Goals as goal

pub returns : goal.returns
returns c = lemma.preferred_valid c.spans_by_form.ensures
