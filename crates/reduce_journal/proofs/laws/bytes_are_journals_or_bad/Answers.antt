use Rattle.reduce_journal.proofs.EachBytes.{each_bytes}
use Rattle.reduce_journal.proofs.laws.bytes_are_journals_or_bad.Goals as goal

pub returns : goal.returns
returns c = each_bytes
