-- Beside `../RunEnds.antt`: what private functions and proofs need.
use Rattle.std.specs.Prelude.{◌≡◌, ◌⊎◌, [], Option, Some, None, IfSome}
use Rattle.edge_io.specs.Sink.{GrewByPrefix, Put}
use Rattle.reduce_journal.specs.History.{History}
use Rattle.reduce_journal.specs.Journal.{head}
use Rattle.reduce_journal.specs.declared.digest.Digest.{Digest}
use Rattle.ordered_commit.specs.Moves.{KeptVerdicts}
use Rattle.ordered_commit.specs.declared.fault.PoolFault.{PoolFault}
use Rattle.ordered_commit.specs.declared.fault.PoolFault.TheVariants.{Script, Journal, Memory}
use Rattle.worker_pool.specs.RunEnds.{HasSameName, BrokeAtEnd, HasWritten, HasNothing}

-- it broke off, in its head, in the last record, or in a commit or a kept record that would come next
abbrev pub HasPart : Digest → KeptVerdicts → History → Option Put → Option Put → Type 0
HasPart start kept history old new =
    HasSameName old new × (((history ≡ []) × GrewByPrefix (head start) old new) ⊎ IfSome new (λ put. BrokeAtEnd start kept history put.bytes))

-- What the journal has, by the fault.
abbrev pub JournalEnds : Digest → KeptVerdicts → Option PoolFault → History → Option Put → Option Put → Type 0
JournalEnds start kept None history old new = HasWritten start history old new
JournalEnds start kept (Some (Script worker)) history old new = HasWritten start history old new
JournalEnds start kept (Some Journal) history old new = HasPart start kept history old new
JournalEnds start kept (Some (Memory _)) history old new = HasWritten start history old new ⊎ HasNothing history old new
