use Rattle.grammar_tree.proofs.SetLaws as lemma
use Rattle.grammar_tree.proofs.laws.complement_twice.Goals as goal

pub returns : goal.returns
returns c = lemma.complement_twice
