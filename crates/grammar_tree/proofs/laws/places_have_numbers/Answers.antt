use Rattle.grammar_tree.proofs.Places as lemma
use Rattle.grammar_tree.proofs.laws.places_have_numbers.Goals as goal

pub returns : goal.returns
returns c = lemma.numbers
