use Rattle.syntax_tree.proofs.LeftTrees as lemma
use Rattle.syntax_tree.proofs.left_laws.left_is_reflexive.Goals as goal

pub returns : goal.returns
returns c = lemma.reflexive
