use Rattle.syntax_tree.proofs.NodeLists as lemma
use Rattle.syntax_tree.proofs.node_laws.subtrees_have_nodes.Goals as goal

pub returns : goal.returns
returns c = lemma.have_nodes
