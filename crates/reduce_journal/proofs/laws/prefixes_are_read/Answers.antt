use Rattle.reduce_journal.proofs.Journals.{cut_journal}
use Rattle.reduce_journal.proofs.laws.prefixes_are_read.Goals as goal

pub returns : goal.returns
returns c = cut_journal
