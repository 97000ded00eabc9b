use Rattle.normal_form.proofs.Elements as lemma
use Rattle.normal_form.proofs.form_laws.elements_are_not_empty.Goals as goal

pub returns : goal.returns
returns c = lemma.elements_are_not_empty
