use Rattle.syntax_tree.proofs.NodeLists as lemma
use Rattle.syntax_tree.proofs.node_laws.nodes_are_subtrees.Goals as goal

pub returns : goal.returns
returns c = lemma.subtrees
