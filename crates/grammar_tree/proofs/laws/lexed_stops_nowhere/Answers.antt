use Rattle.grammar_tree.proofs.LexLaws as lemma
use Rattle.grammar_tree.proofs.laws.lexed_stops_nowhere.Goals as goal

pub returns : goal.returns
returns c = lemma.lexed_stops_nowhere
