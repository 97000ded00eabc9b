-- Beside `../Resume.antt`: what private functions and proofs need.
use Rattle.std.specs.Prelude.{◌≡◌, ◌≢◌, ℕ, List, [], ◌∷◌, Option, Some, None, string_bytes}
use Rattle.edge_io.specs.Files.{IsLonger}
use Rattle.reduce_journal.specs.Journal.{IsBadAt, LacksHead}
use Rattle.reduce_journal.specs.declared.digest.Digest.{Digest}
use Rattle.reduce_journal.specs.declared.read.JournalFault.{JournalFault}
use Rattle.reduce_journal.specs.declared.read.JournalFault.TheVariants as journal_fault
use Rattle.command_ends.specs.declared.status.NamedFile.TheVariants as named
use Rattle.command_ends.specs.declared.status.Refusal.{Refusal}
use Rattle.command_ends.specs.declared.status.Refusal.TheVariants as refused
use Rattle.command_ends.specs.Status.{HasJournalLine, other_start_text}
use Rattle.command_ends.specs.World.{CallFailed, IsQuiet, SeenCalls, SeenFiles, SomeRead, UnreadAfter, WasRead, WereRead, journal_limit, line_of_text}
use Rattle.command_reduce.specs.Resume.{IsRead, IsOfOther}

-- why bytes are no journal, for another cause than memory
abbrev pub IsFaultOf : JournalFault → List ℕ → Type 0
IsFaultOf journal_fault.BadHead bytes = LacksHead bytes
IsFaultOf (journal_fault.BadRecord offset) bytes = IsBadAt bytes offset
IsFaultOf (journal_fault.Memory _) bytes = ⊥

-- why no verdict of a journal is kept, which has this start: memory ran out, or it is another
abbrev pub KeptFails : Digest → Option Digest → Refusal → Type 0
KeptFails start found (refused.Memory _) = Unit {0}
KeptFails start found (refused.OtherStart line) =
    (other : Digest) × (found ≡ Some other) × (other ≢ start) × (string_bytes line ≡ line_of_text (other_start_text other start))
KeptFails start found _ = ⊥

-- why nothing is kept: the journal can't be read, is too long, is none, or is of another start
abbrev pub ResumeFails : List ℕ → Digest → SeenFiles → SeenFiles → Refusal → Type 0
ResumeFails path start files files' (refused.Memory _) = IsQuiet files files'
ResumeFails path start files files' (refused.CannotRead file) = (file ≡ named.Journal) × CallFailed files files'
ResumeFails path start files files' (refused.TooLong file) = (file ≡ named.Journal) × IsLonger journal_limit (files.shown path) × IsQuiet files files'
ResumeFails path start files files' (refused.OtherStart line) =
    (other : Digest) × WasRead journal_limit (files.shown path) (λ bytes. IsRead bytes (IsOfOther start other))
    × (string_bytes line ≡ line_of_text (other_start_text other start)) × IsQuiet files files'
ResumeFails path start files files' (refused.BadJournal line) =
    (fault : JournalFault) × WasRead journal_limit (files.shown path) (IsFaultOf fault) × HasJournalLine fault (string_bytes line) × IsQuiet files files'
ResumeFails path start files files' _ = ⊥

-- the same of a journal that may not be named: without one nothing fails
abbrev pub ResumeRefused : Option (List ℕ) → Digest → SeenFiles → SeenFiles → Refusal → Type 0
ResumeRefused None start files files' refusal = ⊥
ResumeRefused (Some path) start files files' refusal = ResumeFails path start files files' refusal

-- whether the journal's file was read then
abbrev pub ResumeCalls : List ℕ → SeenCalls → SeenCalls → Refusal → Type 0
ResumeCalls path old new (refused.Memory _) = SomeRead (path ∷ []) old new
ResumeCalls path old new (refused.CannotRead file) = (file ≡ named.Journal) × UnreadAfter [] path old new
ResumeCalls path old new (refused.TooLong file) = (file ≡ named.Journal) × WereRead (path ∷ []) old new
ResumeCalls path old new (refused.OtherStart line) = WereRead (path ∷ []) old new
ResumeCalls path old new (refused.BadJournal line) = WereRead (path ∷ []) old new
ResumeCalls path old new _ = ⊥

abbrev pub ResumeRefusedCalls : Option (List ℕ) → SeenCalls → SeenCalls → Refusal → Type 0
ResumeRefusedCalls None old new refusal = ⊥
ResumeRefusedCalls (Some path) old new refusal = ResumeCalls path old new refusal
