use Rattle.grammar_tree.proofs.Places as lemma
use Rattle.grammar_tree.proofs.laws.lexer_rules_have_places.Goals as goal

pub returns : goal.returns
returns c = lemma.lexer_places
