use Rattle.syntax_tree.proofs.ValidTrees as lemma
use Rattle.syntax_tree.proofs.laws.elements_have_tokens.Goals as goal

pub returns : goal.returns
returns c = lemma.elements_weigh c.elements_are_not_empty.ensures
