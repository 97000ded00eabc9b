use Rattle.grammar_tree.proofs.StartLaws as lemma
use Rattle.grammar_tree.proofs.laws.start_is_there.Goals as goal

pub returns : goal.returns
returns c = lemma.there
