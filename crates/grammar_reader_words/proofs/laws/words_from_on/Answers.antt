use Rattle.grammar_reader_words.proofs.Between as lemma
use Rattle.grammar_reader_words.proofs.laws.words_from_on.Goals as goal

pub returns : goal.returns
returns c = lemma.words_from_on
