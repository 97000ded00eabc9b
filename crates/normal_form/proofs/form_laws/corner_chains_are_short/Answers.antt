use Rattle.normal_form.proofs.ShortChains as lemma
use Rattle.normal_form.proofs.form_laws.corner_chains_are_short.Goals as goal

pub returns : goal.returns
returns c = lemma.corner_chains_are_short
