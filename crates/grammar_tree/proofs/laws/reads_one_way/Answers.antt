use Rattle.grammar_tree.proofs.LexLaws as lemma
use Rattle.grammar_tree.proofs.laws.reads_one_way.Goals as goal

pub returns : goal.returns
returns c = lemma.reads_one_way
