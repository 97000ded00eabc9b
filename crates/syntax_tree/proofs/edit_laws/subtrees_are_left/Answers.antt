use Rattle.syntax_tree.proofs.Exchanged as lemma
use Rattle.syntax_tree.proofs.edit_laws.subtrees_are_left.Goals as goal

pub returns : goal.returns
returns c = lemma.are_left
