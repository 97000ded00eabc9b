use Rattle.command_reduce_calls.proofs.NameLemmas.{name-split, name-none}
use Rattle.command_reduce_calls.proofs.name.file_name_of.Goals as goal

pub returns-in-Some : goal.returns-in-Some
returns-in-Some c =
    let split = c.in-Some.ensures.cases in
    name-split c.args.path.now c.in-Some.field-0-0.now c.in-Some.name.now split.0 split.1 split.2 split.4

pub returns-in-None : goal.returns-in-None
returns-in-None c = name-none c.args.path.now c.in-None.ensures.cases
