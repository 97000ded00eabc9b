use Rattle.grammar_tree.proofs.MatchForms as lemma
use Rattle.grammar_tree.proofs.laws.shortest_is_matched.Goals as goal

pub returns : goal.returns
returns c = lemma.shortest
