use Rattle.case_reduction.proofs.Verdicts.{get_yes}
use Rattle.case_reduction.proofs.language_laws.cases_get_yes.Goals as goal

pub returns : goal.returns
returns c = get_yes
