use Rattle.grammar_check.proofs.Table.{first_fault_once}
use Rattle.grammar_check.proofs.laws.first_fault_once.Goals as goal

pub returns : goal.returns
returns c = first_fault_once
