use Rattle.std.proofs.Common.{refl}
use Rattle.normal_form_print.proofs.print.is_one.Goals as goal

pub returns : goal.returns
returns c = refl
