use Rattle.syntax_tree.proofs.SingleEdits as lemma
use Rattle.syntax_tree.proofs.edit_laws.single_edits_are_trees.Goals as goal

pub returns : goal.returns
returns c = lemma.edits_are_trees
