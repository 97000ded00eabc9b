use Rattle.descend_replace.proofs.Deciding.{decides}
use Rattle.descend_replace.proofs.laws.fits_in_decides.Goals as goal

pub returns : goal.returns
returns c = decides
