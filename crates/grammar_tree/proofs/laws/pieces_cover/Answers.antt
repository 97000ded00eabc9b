use Rattle.grammar_tree.proofs.LexLaws as lemma
use Rattle.grammar_tree.proofs.laws.pieces_cover.Goals as goal

pub returns : goal.returns
returns c = lemma.pieces_cover
