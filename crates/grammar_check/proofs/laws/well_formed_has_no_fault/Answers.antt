use Rattle.grammar_check.proofs.CheckForms.{well_formed_has_no_fault}
use Rattle.grammar_check.proofs.laws.well_formed_has_no_fault.Goals as goal

pub returns : goal.returns
returns c = well_formed_has_no_fault
