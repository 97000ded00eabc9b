use Rattle.syntax_tree.proofs.InSlots as lemma
use Rattle.syntax_tree.proofs.edit_laws.subtrees_fit.Goals as goal

pub returns : goal.returns
returns c = lemma.fit
