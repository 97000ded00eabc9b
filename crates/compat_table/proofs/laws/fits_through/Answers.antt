use Rattle.compat_table.proofs.Fitting as lemma
use Rattle.compat_table.proofs.laws.fits_through.Goals as goal

pub returns : goal.returns
returns c = lemma.fits_through
