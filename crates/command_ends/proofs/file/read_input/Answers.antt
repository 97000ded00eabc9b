use Rattle.command_ends.proofs.file.read_input.Goals as goal

pub returns-clause-limit : goal.returns-clause-limit
returns-clause-limit g c = c.read_file.ensures.limit

pub returns-clause-refused : goal.returns-clause-refused
returns-clause-refused g c = c.read_file.ensures.refused
