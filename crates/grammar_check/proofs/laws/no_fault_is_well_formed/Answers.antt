use Rattle.grammar_check.proofs.CheckForms.{no_fault_is_well_formed}
use Rattle.grammar_check.proofs.laws.no_fault_is_well_formed.Goals as goal

pub returns : goal.returns
returns c = no_fault_is_well_formed
