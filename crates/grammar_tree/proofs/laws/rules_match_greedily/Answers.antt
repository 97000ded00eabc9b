use Rattle.grammar_tree.proofs.MatchForms as lemma
use Rattle.grammar_tree.proofs.laws.rules_match_greedily.Goals as goal

pub returns : goal.returns
returns c = lemma.greedily
