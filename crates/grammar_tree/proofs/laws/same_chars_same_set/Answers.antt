use Rattle.grammar_tree.proofs.SetLaws as lemma
use Rattle.grammar_tree.proofs.laws.same_chars_same_set.Goals as goal

pub returns : goal.returns
returns c = lemma.same_chars
