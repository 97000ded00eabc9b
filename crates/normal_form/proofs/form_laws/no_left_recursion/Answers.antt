use Rattle.normal_form.proofs.NoLeftRecursion as lemma
use Rattle.normal_form.proofs.form_laws.no_left_recursion.Goals as goal

pub returns : goal.returns
returns c = lemma.no_left_recursion
