use Rattle.grammar_tree.proofs.LeftRecursion as lemma
use Rattle.grammar_tree.proofs.laws.base_then_rests.Goals as goal

pub returns : goal.returns
returns c = lemma.base_then_rests
