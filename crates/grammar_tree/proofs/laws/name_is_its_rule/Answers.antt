use Rattle.grammar_tree.proofs.Resolved as lemma
use Rattle.grammar_tree.proofs.laws.name_is_its_rule.Goals as goal

pub returns : goal.returns
returns c = lemma.name_is_its_rule
