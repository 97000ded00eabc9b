use Rattle.syntax_tree.proofs.Finding as lemma
use Rattle.syntax_tree.proofs.node_laws.numbers_find_subtrees.Goals as goal

pub returns : goal.returns
returns c = lemma.find
