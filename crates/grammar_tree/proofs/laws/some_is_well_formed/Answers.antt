use Rattle.grammar_tree.proofs.StartLaws as lemma
use Rattle.grammar_tree.proofs.laws.some_is_well_formed.Goals as goal

pub returns : goal.returns
returns c = lemma.some_is_well_formed
