use Rattle.grammar_tree.proofs.LexLaws as lemma
use Rattle.grammar_tree.proofs.laws.stops_once.Goals as goal

pub returns : goal.returns
returns c = lemma.stops_once
