use Rattle.syntax_tree.proofs.LeftTrees as lemma
use Rattle.syntax_tree.proofs.left_laws.left_is_transitive.Goals as goal

pub returns : goal.returns
returns c = lemma.transitive
