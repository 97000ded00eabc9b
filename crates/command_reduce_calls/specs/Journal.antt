-- What may have become of the journal.
use Rattle.std.specs.Prelude.{◌≡◌, ℕ, List, [], Option, option_map}
use Rattle.edge_io.specs.Sink.{Put, empty_put}
use Rattle.reduce_journal.specs.declared.digest.Digest.{Digest}
use Rattle.reduce_journal.specs.History.{History}
use Rattle.ordered_commit.specs.Moves.{KeptVerdicts}
use Rattle.run_gated.specs.Workers.{HasPartBy}
use Rattle.worker_pool.specs.RunEnds.{HasWritten}
use Rattle.command_ends.specs.World.{IsQuiet, SeenJournal}

-- what is visible of it once it was opened under this name
abbrev pub opened_as : List ℕ → Option Put → Option Put
opened_as name put = option_map (λ _. empty_put name) put

-- It was opened under this name, and then the history was put, all of it and nothing else; and no call of it failed.
pub record JournalWhole (name : List ℕ) (start : Digest) (history : History) (old new : SeenJournal) : Type 0 where
  pub written : HasWritten start history (opened_as name old.shown) new.shown
  pub quiet : IsQuiet old new

-- It is as handed in, and nothing was recorded.
pub record JournalUntouched (history : History) (old new : SeenJournal) : Type 0 where
  pub no_history : history ≡ []
  pub same : new ≡ old

-- It was opened under this name, nothing was put since, and nothing was recorded; and no call of it failed.
pub record JournalEmpty (name : List ℕ) (history : History) (old new : SeenJournal) : Type 0 where
  pub no_history : history ≡ []
  pub opened : new.shown ≡ opened_as name old.shown
  pub quiet : IsQuiet old new

-- where memory ran out: it has the whole history, it is as handed in, or it was opened and has nothing
pub data JournalSoFar (name : List ℕ) (start : Digest) (history : History) (old new : SeenJournal) : Type 0 where
  whole : JournalWhole name start history old new → JournalSoFar name start history old new
  untouched : JournalUntouched history old new → JournalSoFar name start history old new
  empty : JournalEmpty name history old new → JournalSoFar name start history old new

-- It wasn't opened, and shows what it did; or it was, and broke off: in its head, or in an event.
-- With one worker that is the last record of the history, or a commit or a kept record that would come next.
pub data JournalBroken (workers : ℕ) (name : List ℕ) (start : Digest) (kept : KeptVerdicts) (history : History) (old new : SeenJournal) : Type 0 where
  unopened : history ≡ [] → new.shown ≡ old.shown → JournalBroken workers name start kept history old new
  broke_off : HasPartBy workers start kept history (opened_as name old.shown) new.shown → JournalBroken workers name start kept history old new
