use Rattle.grammar_tree.proofs.DeriveForms as lemma
use Rattle.grammar_tree.proofs.laws.derives_by_form.Goals as goal

pub returns : goal.returns
returns c = lemma.by_form
