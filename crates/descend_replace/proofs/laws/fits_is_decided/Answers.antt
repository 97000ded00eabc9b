use Rattle.descend_replace.proofs.Deciding.{decided}
use Rattle.descend_replace.proofs.laws.fits_is_decided.Goals as goal

pub returns : goal.returns
returns c = decided
