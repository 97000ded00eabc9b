use Rattle.normal_form.proofs.SmallNumbers as lemma
use Rattle.normal_form.proofs.form_laws.numbers_are_small.Goals as goal

pub returns : goal.returns
returns c = lemma.numbers_are_small
