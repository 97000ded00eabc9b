use Rattle.syntax_tree.proofs.OtherNodes as lemma
use Rattle.syntax_tree.proofs.edit_laws.other_nodes_stay.Goals as goal

pub returns : goal.returns
returns c = lemma.other_nodes
