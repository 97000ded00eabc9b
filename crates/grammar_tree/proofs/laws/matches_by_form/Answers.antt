use Rattle.grammar_tree.proofs.MatchForms as lemma
use Rattle.grammar_tree.proofs.laws.matches_by_form.Goals as goal

pub returns : goal.returns
returns c = lemma.by_form
