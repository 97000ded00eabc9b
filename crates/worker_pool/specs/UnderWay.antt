-- A run between its first call and its end.
use Rattle.std.specs.Prelude.{◌≡◌, ℕ, List, Option, Some, None}
use Rattle.reduce_journal.specs.History.{History}
use Rattle.reduce_journal.specs.Journal.{journal_text}
use Rattle.reduce_journal.specs.declared.digest.Digest.{Digest}
use Rattle.ordered_commit.specs.Moves.{KeptVerdicts}
use Rattle.ordered_commit.specs.declared.fault.PoolFault.{PoolFault}
use Rattle.ordered_commit.specs.declared.fault.PoolFault.TheVariants.{Script, Journal, Memory}
use Rattle.worker_pool.specs.RunEnds.{BrokeAtEnd}

-- the bytes of the journal: those of the history, unless it broke off
abbrev pub AreJournalBytes : Digest → KeptVerdicts → Option PoolFault → History → List ℕ → Type 0
AreJournalBytes start kept None history bytes = bytes ≡ journal_text start history
AreJournalBytes start kept (Some (Script worker)) history bytes = bytes ≡ journal_text start history
AreJournalBytes start kept (Some Journal) history bytes = BrokeAtEnd start kept history bytes
AreJournalBytes start kept (Some (Memory _)) history bytes = bytes ≡ journal_text start history
