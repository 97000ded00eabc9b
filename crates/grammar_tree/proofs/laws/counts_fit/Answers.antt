use Rattle.grammar_tree.proofs.Counts as lemma
use Rattle.grammar_tree.proofs.laws.counts_fit.Goals as goal

pub returns : goal.returns
returns c = lemma.counts_fit
