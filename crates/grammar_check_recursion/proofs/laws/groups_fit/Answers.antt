use Rattle.grammar_check_recursion.proofs.Counted as lemma
use Rattle.grammar_check_recursion.proofs.laws.groups_fit.Goals as goal

pub returns : goal.returns
returns c = lemma.groups_fit
