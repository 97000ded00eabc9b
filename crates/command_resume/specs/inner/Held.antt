-- What a file holds that is set aside, and the answer on it.
use Rattle.std.specs.Prelude.{◌≡◌, ◌⊎◌, ◌<◌, ◌≤◌, ℕ, List, Option, Some, None, Result, Ok, Err, length}
use Rattle.command_ends.specs.World.{journal_limit}
use Rattle.reduce_journal.specs.declared.head.Head.{Head}
use Rattle.reduce_journal.specs.declared.read.Journal.{Journal}
use Rattle.reduce_journal.specs.History.{History}
use Rattle.reduce_journal.specs.Journal.{IsHeadBegun, IsJournalOf, IsReadOf, IsStart}
use Rattle.command_resume.specs.declared.fault.AsideCause.{AsideCause}
use Rattle.command_resume.specs.declared.fault.AsideCause.TheVariants.{Failed, NoJournal, OtherStart, TooLong, Memory}

-- these bytes are a journal of some head and history
abbrev pub IsJournal : List ℕ → Type 0
IsJournal bytes = (first : Head) × (events : History) × (torn : ℕ) × IsJournalOf bytes first events torn

-- and it has no start
abbrev pub LacksStart : List ℕ → Type 0
LacksStart bytes = (first : Head) × (events : History) × (torn : ℕ) × IsJournalOf bytes first events torn × IsStart first events None

-- these bytes were written before anything was asked: a part of a head, or a journal without a start
abbrev pub IsBegun : List ℕ → Type 0
IsBegun bytes = IsHeadBegun bytes ⊎ LacksStart bytes

-- the answer on a file's bytes: nothing where they are only begun, else the journal, or that they are none; or memory runs out
abbrev pub IsAnswerOn : List ℕ → Result (Option Journal) AsideCause → Type 0
IsAnswerOn bytes (Ok None) = IsBegun bytes
IsAnswerOn bytes (Ok (Some journal)) = (¬ IsBegun bytes) × IsReadOf bytes journal
IsAnswerOn bytes (Err NoJournal) = (¬ IsBegun bytes) × (¬ IsJournal bytes)
IsAnswerOn bytes (Err (Memory memory)) = Unit {0}
IsAnswerOn bytes (Err OtherStart) = ⊥
IsAnswerOn bytes (Err TooLong) = ⊥
IsAnswerOn bytes (Err (Failed reason)) = ⊥

-- the answer on a file, which isn't there or has these bytes, whole or one more than a journal may have
abbrev pub IsAnswerTo : Option (List ℕ) → Result (Option Journal) AsideCause → Type 0
IsAnswerTo None answer = answer ≡ Ok None
IsAnswerTo (Some bytes) answer =
    ((length bytes ≤ journal_limit) × IsAnswerOn bytes answer) ⊎ ((journal_limit < length bytes) × (answer ≡ Err TooLong))

-- why a file's bytes aren't had: a call failed, or it is no ordinary file
abbrev pub IsUnread : AsideCause → Type 0
IsUnread (Failed reason) = Unit {0}
IsUnread NoJournal = Unit {0}
IsUnread OtherStart = ⊥
IsUnread TooLong = ⊥
IsUnread (Memory memory) = ⊥

-- the answer on some file, or why its bytes aren't had
abbrev pub IsAnswerToSome : Result (Option Journal) AsideCause → Type 0
IsAnswerToSome answer = ((held : Option (List ℕ)) × IsAnswerTo held answer) ⊎ ((cause : AsideCause) × IsUnread cause × (answer ≡ Err cause))
