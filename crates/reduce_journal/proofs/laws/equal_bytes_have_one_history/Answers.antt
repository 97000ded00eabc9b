use Rattle.reduce_journal.proofs.Journals.{equal_histories, one_journal}
use Rattle.reduce_journal.proofs.laws.equal_bytes_have_one_history.Goals as goal

pub returns-clause-histories : goal.returns-clause-histories
returns-clause-histories c = equal_histories

pub returns-clause-journals : goal.returns-clause-journals
returns-clause-journals c = one_journal
