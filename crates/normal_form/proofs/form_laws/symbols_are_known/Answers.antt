use Rattle.normal_form.proofs.KnownSymbols as lemma
use Rattle.normal_form.proofs.form_laws.symbols_are_known.Goals as goal

pub returns : goal.returns
returns c = lemma.symbols_are_known
