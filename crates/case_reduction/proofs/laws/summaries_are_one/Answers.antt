use Rattle.case_reduction.proofs.OneSummary as lemma
use Rattle.case_reduction.proofs.laws.summaries_are_one.Goals as goal

pub returns : goal.returns
returns c = lemma.summaries_are_one c.mini_is_spelled.ensures.only c.inputs_are_one.ensures
