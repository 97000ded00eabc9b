use Rattle.normal_form.proofs.DeriveForms as lemma
use Rattle.normal_form.proofs.form_laws.normal_derives_by_form.Goals as goal

pub returns : goal.returns
returns c = lemma.by_form
