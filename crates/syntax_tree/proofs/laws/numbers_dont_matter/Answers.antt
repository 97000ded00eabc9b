use Rattle.syntax_tree.proofs.PreferredTrees as lemma
use Rattle.syntax_tree.proofs.laws.numbers_dont_matter.Goals as goal

pub returns : goal.returns
returns c = lemma.numbers_free
