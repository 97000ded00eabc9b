use Rattle.normal_form.proofs.ShortChains as lemma
use Rattle.normal_form.proofs.form_laws.all_corners_end.Goals as goal

pub returns : goal.returns
returns c = lemma.all_corners_end
