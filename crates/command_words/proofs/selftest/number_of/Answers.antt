use Rattle.command_words.specs.Tables.{selftest_table}
use Rattle.command_words.proofs.Assembled.{this_number}
use Rattle.command_words.proofs.Firsts.{first_some}
use Rattle.command_words.proofs.selftest.number_of.Goals as goal

pub returns-clause-value : goal.returns-clause-value
returns-clause-value c = λ uses has takes few.
    let name = c.args.name.now in
    let text = c.in_ok-get_str.field-0.now in
    this_number c.args.least c.args.most name uses text c.read_number.result few
    (first_some selftest_table uses c.args.matches.now name text has takes c.in_ok-get_str.ensures) c.read_number.ensures.value
