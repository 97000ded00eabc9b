use Rattle.grammar_reader_words.proofs.Placing as lemma
use Rattle.grammar_reader_words.proofs.laws.words_are_at_spans.Goals as goal

pub returns : goal.returns
returns c = lemma.words_are_at_spans
