use Rattle.std.proofs.Common.{codes, refl}
use Rattle.command_words.specs.Options.{Values}
use Rattle.command_words.specs.Tables.{optional, reduce_table}
use Rattle.command_words.proofs.Firsts.{first_some}
use Rattle.command_words.proofs.FoundValues.{jobs_read, named_by}
use Rattle.command_words.proofs.reduce.jobs_of.Goals as goal

pub returns-in-Some-clause-jobs : goal.returns-in-Some-clause-jobs
returns-in-Some-clause-jobs c = λ uses has.
    let text = c.in-Some.jobs.now in
    let some = first_some reduce_table uses c.args.matches.now (codes "jobs") text has (named_by reduce_table (codes "jobs") refl) c.in-Some.ensures in
    jobs_read uses text c.read_number.result (has.once (optional (codes "jobs") (Values.number 1 16)) refl refl) some c.read_number.ensures.value
