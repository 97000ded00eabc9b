use Rattle.cases_reducers.proofs.ByteLaws.{is_lawful}
use Rattle.cases_reducers.proofs.byte_round.ByteRoundRound.begin_round.Goals as goal

pub returns-clause-lawful : goal.returns-clause-lawful
returns-clause-lawful c = is_lawful c.args.self.now.start.now
