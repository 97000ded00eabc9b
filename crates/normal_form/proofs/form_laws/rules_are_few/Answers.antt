use Rattle.normal_form.proofs.Few as lemma
use Rattle.normal_form.proofs.form_laws.rules_are_few.Goals as goal

pub returns : goal.returns
returns c = lemma.rules_are_few
