use Rattle.syntax_tree.proofs.KeptLeaves as lemma
use Rattle.syntax_tree.proofs.left_laws.nodes_are_left.Goals as goal

pub returns : goal.returns
returns c = lemma.nodes_left
