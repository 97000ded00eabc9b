use Rattle.syntax_tree.proofs.NodeLists as lemma
use Rattle.syntax_tree.proofs.node_laws.whole_trees_rise.Goals as goal

pub returns : goal.returns
returns c = lemma.whole_rise
