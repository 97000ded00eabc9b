use Rattle.grammar_tree.proofs.Counts as lemma
use Rattle.grammar_tree.proofs.laws.kinds_are_rules.Goals as goal

pub returns : goal.returns
returns c = lemma.kinds_are_rules
