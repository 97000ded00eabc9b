use Rattle.std.proofs.Common.{refl}
use Rattle.token_print.proofs.laws.worked_texts.Goals as goal

pub returns : goal.returns
returns c = (refl, refl)
