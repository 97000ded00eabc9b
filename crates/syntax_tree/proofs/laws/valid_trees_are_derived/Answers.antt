use Rattle.syntax_tree.proofs.ValidTrees as lemma
use Rattle.syntax_tree.proofs.laws.valid_trees_are_derived.Goals as goal

pub returns : goal.returns
returns c = lemma.valid_derived
