use Rattle.case_reduction.proofs.Profile.{all_in_language}
use Rattle.case_reduction.proofs.language_laws.cases_are_in_language.Goals as goal

pub returns : goal.returns
returns c = all_in_language
