use Rattle.normal_form.proofs.Languages as lemma
use Rattle.normal_form.proofs.laws.equal_languages.Goals as goal

pub returns : goal.returns
returns c = lemma.equal_languages
