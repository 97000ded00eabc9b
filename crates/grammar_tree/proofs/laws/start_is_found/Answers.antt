use Rattle.grammar_tree.proofs.Counts as lemma
use Rattle.grammar_tree.proofs.laws.start_is_found.Goals as goal

pub returns : goal.returns
returns c = lemma.start_is_found
