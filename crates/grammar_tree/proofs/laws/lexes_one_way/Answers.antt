use Rattle.grammar_tree.proofs.LexLaws as lemma
use Rattle.grammar_tree.proofs.laws.lexes_one_way.Goals as goal

pub returns : goal.returns
returns c = lemma.one_way
