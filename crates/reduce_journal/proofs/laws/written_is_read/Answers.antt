use Rattle.reduce_journal.proofs.Journals.{written_whole}
use Rattle.reduce_journal.proofs.laws.written_is_read.Goals as goal

pub returns : goal.returns
returns c = written_whole
