use Rattle.case_reduction.proofs.Profile.{is_spelled}
use Rattle.case_reduction.proofs.language_laws.mini_is_spelled.Goals as goal

pub returns : goal.returns
returns c = is_spelled
