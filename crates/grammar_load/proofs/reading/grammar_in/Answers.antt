use Rattle.std.proofs.Common.{◌≢◌, rules}
use Rattle.faults.specs.Memory.{ran_out}
use Rattle.grammar_reader_notation.specs.declared.fault.ReadFault.TheVariants as read
use Rattle.grammar_load.proofs.reading.grammar_in.Goals as goal

pub returns-in-Err-clause-only : goal.returns-in-Err-clause-only
returns-in-Err-clause-only c = λ G spelled.
    let caused : c.in-Err.fault ≢ read.Memory ran_out = search rules in absurd (caused (c.in-Err.ensures.only G spelled))

pub returns-in-Err-clause-fault : goal.returns-in-Err-clause-fault
returns-in-Err-clause-fault c = λ wanted.
    let caused : c.in-Err.fault ≢ read.Memory ran_out = search rules in (caused, c.in-Err.ensures.fault)
