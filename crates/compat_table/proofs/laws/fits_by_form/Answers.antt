use Rattle.compat_table.proofs.Fitting as lemma
use Rattle.compat_table.proofs.laws.fits_by_form.Goals as goal

pub returns : goal.returns
returns c = lemma.by_form
