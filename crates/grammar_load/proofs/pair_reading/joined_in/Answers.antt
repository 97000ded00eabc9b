use Rattle.std.proofs.Common.{◌≢◌, rules}
use Rattle.faults.specs.Memory.{ran_out}
use Rattle.grammar_pair.specs.declared.fault.PairFault.TheVariants as pair
use Rattle.grammar_load.proofs.pair_reading.joined_in.Goals as goal

pub returns-in-Err-clause-only : goal.returns-in-Err-clause-only
returns-in-Err-clause-only c = λ G joined.
    let caused : c.in-Err.fault ≢ pair.Memory ran_out = search rules in absurd (caused (c.in-Err.ensures.only G joined))

pub returns-in-Err-clause-fault : goal.returns-in-Err-clause-fault
returns-in-Err-clause-fault c = λ wanted.
    let caused : c.in-Err.fault ≢ pair.Memory ran_out = search rules in (caused, c.in-Err.ensures.fault)
