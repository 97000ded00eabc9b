-- The refusals of the program: the status and the line of each, and which of them a step may give. The texts are
-- also written where the ends of each command are defined, so that those can be read by themselves.
use Rattle.std.specs.Prelude.{◌≡◌, ◌⊎◌, ℕ, ◌+◌, ◌==◌, List, [], ◌∷◌, ◌++◌, IsTrue, Option, Some, Result, Ok, Err, codes, string_bytes}
use Rattle.hex.specs.Hex.{encode_lower}
use Rattle.std.specs.List.{list_any}
use Rattle.std.specs.Fmt.{decimal}
use Rattle.edge_io.specs.Files.{FileContent, IsLonger}
use Rattle.edge_io.specs.FileCalls.{FileCall, failed_call, good_call}
use Rattle.edge_io.specs.declared.file_call.FileAction.TheVariants as action
use Rattle.keep_guard.specs.Keep.{first_missing}
use Rattle.reduce_trees_input.specs.FaultText.{input_fault_text}
use Rattle.reduce_trees_input.specs.declared.fault.InputFault.{InputFault}
use Rattle.reduce_trees_input.specs.declared.fault.InputFault.TheVariants as input_fault
use Rattle.reduce_journal.specs.declared.digest.Digest.{Digest}
use Rattle.reduce_journal.specs.declared.read.JournalFault.{JournalFault}
use Rattle.reduce_journal.specs.declared.read.JournalFault.TheVariants as journal_fault
use Rattle.run_gated.specs.declared.fault.RunFault.{RunFault}
use Rattle.run_gated.specs.declared.fault.RunFault.TheVariants as run
use Rattle.command_ends.specs.declared.status.NamedFile.{NamedFile}
use Rattle.command_ends.specs.declared.status.NamedFile.TheVariants as read
use Rattle.command_ends.specs.declared.status.Refusal.{Refusal}
use Rattle.command_ends.specs.declared.status.Refusal.TheVariants.{Memory, Usage, CannotRead, CannotWrite, Grammar, Uncut, NoParse}
use Rattle.command_ends.specs.declared.status.Refusal.TheVariants.{NotInteresting, KeepMissing, TooLong, Script, Journal, OtherStart, BadJournal, NotConfirmed}
use Rattle.command_ends.specs.declared.status.Refusal.TheVariants.{BeyondLines}
use Rattle.command_ends.specs.World.{PutsPrefix, CallFailed, FilesKept, IsQuiet, Puts, PutsLine, SeenFiles, SeenOut, line_of_text}

-- how a line names a file that is read
abbrev pub word_for : NamedFile → List ℕ
word_for read.Input = codes "input"
word_for read.Grammar = codes "grammar"
word_for read.Lexer = codes "lexer grammar"
word_for read.Result = codes "result"
word_for read.Journal = codes "journal"

-- the line of a grammar's fault
abbrev pub fault_line : List ℕ → List ℕ
fault_line text = line_of_text (codes "grammar: " ++ text)

-- the text for an input in which keep text `number`, counted from 1, doesn't occur
abbrev pub keep_text : ℕ → List ℕ
keep_text number = codes "keep text " ++ (decimal number ++ codes " is missing")

-- the text where an option names this line, counted from 1, of an input that has only so many
abbrev pub beyond_text : ℕ → ℕ → List ℕ
beyond_text line lines = codes "line " ++ (decimal line ++ (codes " is beyond line " ++ decimal lines))

-- the text for bytes of which nothing is read as an event from this offset on
abbrev pub bad_record_text : ℕ → List ℕ
bad_record_text offset = codes "bad journal at byte " ++ decimal offset

-- the text for a call that failed of the gate of this worker
abbrev pub script_text : ℕ → List ℕ
script_text worker = codes "script fault at worker " ++ decimal worker

-- the text for a journal of another start: its digest, and that of the input
abbrev pub other_start_text : Digest → Digest → List ℕ
other_start_text other start = codes "journal is of another start: " ++ (encode_lower other.bytes ++ (codes ", input: " ++ encode_lower start.bytes))

-- the status is one of these
abbrev pub IsOneOf : List ℕ → ℕ → Type 0
IsOneOf statuses status = IsTrue (list_any (λ s. s == status) statuses)

-- the status and the line of a refusal
abbrev pub ending_of : Refusal → ℕ × List ℕ
ending_of (Memory _) = (1, line_of_text (codes "out of memory"))
ending_of Usage = (2, line_of_text (codes "bad command line"))
ending_of (CannotRead file) = (3, line_of_text (codes "cannot read " ++ word_for file))
ending_of CannotWrite = (4, line_of_text (codes "cannot write"))
ending_of (Grammar line) = (5, string_bytes line)
ending_of (Uncut line) = (6, string_bytes line)
ending_of NoParse = (7, line_of_text (codes "input does not parse"))
ending_of NotInteresting = (8, line_of_text (codes "start is not interesting"))
ending_of (KeepMissing line) = (9, string_bytes line)
ending_of (TooLong file) = (10, line_of_text (word_for file ++ codes " is too long"))
ending_of (Script line) = (11, line.bytes)
ending_of Journal = (12, line_of_text (codes "journal fault"))
ending_of (OtherStart line) = (13, string_bytes line)
ending_of (BadJournal line) = (14, string_bytes line)
ending_of (NotConfirmed line) = (15, string_bytes line)
ending_of (BeyondLines line) = (16, string_bytes line)

abbrev pub status_of : Refusal → ℕ
status_of refusal = (ending_of refusal).0

abbrev pub line_of : Refusal → List ℕ
line_of refusal = (ending_of refusal).1

-- the status and the line for a run that ended without a result
abbrev pub ending_of_run : RunFault → ℕ × List ℕ
ending_of_run run.NotInteresting = (8, line_of_text (codes "start is not interesting"))
ending_of_run (run.Script worker) = (11, line_of_text (script_text worker))
ending_of_run run.Journal = (12, line_of_text (codes "journal fault"))
ending_of_run (run.Memory _) = (1, line_of_text (codes "out of memory"))

-- the status is that of the refusal, and its line was put
pub record EndsRefused (old new : SeenOut) (status : ℕ) (refusal : Refusal) : Type 0 where
  pub status_is : status ≡ status_of refusal
  pub line : PutsLine (line_of refusal) old new

-- the answer was put whole, at status 0, or some prefix of it, at status 4
abbrev pub EndsWithAnswer : List ℕ → SeenOut → SeenOut → ℕ → Type 0
EndsWithAnswer answer old new status = ((status ≡ 0) × Puts answer old new) ⊎ ((status ≡ 4) × PutsPrefix answer old new)

-- why a file wasn't read
abbrev pub ReadFails : ℕ → NamedFile → Option FileContent → SeenFiles → SeenFiles → Refusal → Type 0
ReadFails limit file content old new (Memory _) = IsQuiet old new
ReadFails limit file content old new (CannotRead named) = (named ≡ file) × CallFailed old new
ReadFails limit file content old new (TooLong named) = (named ≡ file) × IsLonger limit content × IsQuiet old new
ReadFails limit file content old new _ = ⊥

-- why a file wasn't written
abbrev pub WriteFails : SeenFiles → SeenFiles → Refusal → Type 0
WriteFails old new (Memory _) = FilesKept old new
WriteFails old new CannotWrite = CallFailed old new
WriteFails old new _ = ⊥

-- the calls that a read of the file of this path makes, by what came of it; where it was refused, by that
abbrev pub unread_makes : List ℕ → Refusal → List FileCall
unread_makes path (Memory _) = []
unread_makes path (CannotRead file) = failed_call action.Read path ∷ []
unread_makes path _ = good_call action.Read path ∷ []

abbrev pub read_makes : {A : Type 0} → List ℕ → Result A Refusal → List FileCall
read_makes path (Ok bytes) = good_call action.Read path ∷ []
read_makes path (Err refusal) = unread_makes path refusal

-- those of a write
abbrev pub unwritten_makes : List ℕ → Refusal → List FileCall
unwritten_makes path CannotWrite = failed_call action.Write path ∷ []
unwritten_makes path _ = []

abbrev pub write_makes : {A : Type 0} → List ℕ → Result A Refusal → List FileCall
write_makes path (Ok done) = good_call action.Write path ∷ []
write_makes path (Err refusal) = unwritten_makes path refusal

-- a refusal that names a file names this one
abbrev pub NamesNoOther : NamedFile → Refusal → Type 0
NamesNoOther file (CannotRead named) = named ≡ file
NamesNoOther file (TooLong named) = named ≡ file
NamesNoOther file _ = Unit {0}

-- the line was put of a refusal that has this status and names no file but this one
abbrev pub PutsRefusal : NamedFile → SeenOut → SeenOut → ℕ → Type 0
PutsRefusal file out out' status = (refusal : Refusal) × NamesNoOther file refusal × (status ≡ status_of refusal) × PutsLine (line_of refusal) out out'

-- the refusal of a grammar whose fault has this text, or out of memory
abbrev pub IsGrammarRefusal : List ℕ → Refusal → Type 0
IsGrammarRefusal text (Memory _) = Unit {0}
IsGrammarRefusal text (Grammar line) = string_bytes line ≡ fault_line text
IsGrammarRefusal text _ = ⊥

-- the fault is that bytes aren't UTF-8, or aren't cut into tokens
abbrev pub IsUncut : InputFault → Type 0
IsUncut (input_fault.NotUtf8 offset) = Unit {0}
IsUncut (input_fault.NoToken offset) = Unit {0}
IsUncut input_fault.NoParse = ⊥
IsUncut (input_fault.Memory _) = ⊥

-- the refusal of an input that has this fault
abbrev pub IsInputRefusal : InputFault → Refusal → Type 0
IsInputRefusal fault (Memory _) = Unit {0}
IsInputRefusal fault (Uncut line) = IsUncut fault × (string_bytes line ≡ line_of_text (input_fault_text fault))
IsInputRefusal fault NoParse = fault ≡ input_fault.NoParse
IsInputRefusal fault _ = ⊥

-- the refusal of an input in which this keep text doesn't occur, or out of memory
abbrev pub IsKeepRefusal : ℕ → Refusal → Type 0
IsKeepRefusal number (Memory _) = Unit {0}
IsKeepRefusal number (KeepMissing line) = string_bytes line ≡ line_of_text (keep_text number)
IsKeepRefusal number _ = ⊥

-- why a start isn't accepted: this keep text is the first that doesn't occur in it, or out of memory
abbrev pub KeepsFail : List (List ℕ) → List ℕ → Refusal → Type 0
KeepsFail keeps start (Memory _) = Unit {0}
KeepsFail keeps start (KeepMissing line) = (index : ℕ) × (first_missing keeps start ≡ Some index) × IsKeepRefusal (index + 1) (KeepMissing line)
KeepsFail keeps start _ = ⊥

-- the refusal where an option names this line of an input that has only so many, or out of memory
abbrev pub IsBeyondRefusal : ℕ → ℕ → Refusal → Type 0
IsBeyondRefusal line lines (Memory _) = Unit {0}
IsBeyondRefusal line lines (BeyondLines text) = string_bytes text ≡ line_of_text (beyond_text line lines)
IsBeyondRefusal line lines _ = ⊥

-- the refusal of a journal of another start, or out of memory
abbrev pub IsOtherStartRefusal : Digest → Digest → Refusal → Type 0
IsOtherStartRefusal other start (Memory _) = Unit {0}
IsOtherStartRefusal other start (OtherStart line) = string_bytes line ≡ line_of_text (other_start_text other start)
IsOtherStartRefusal other start _ = ⊥

-- the line of a refusal of bytes that are no journal, for another cause than memory
abbrev pub HasJournalLine : JournalFault → List ℕ → Type 0
HasJournalLine journal_fault.BadHead line = line ≡ line_of_text (codes "bad journal head")
HasJournalLine (journal_fault.BadRecord offset) line = line ≡ line_of_text (bad_record_text offset)
HasJournalLine (journal_fault.Memory _) line = ⊥

-- the refusal of bytes that are no journal for this cause, or out of memory
abbrev pub IsJournalRefusal : JournalFault → Refusal → Type 0
IsJournalRefusal fault (Memory _) = Unit {0}
IsJournalRefusal fault (BadJournal line) = HasJournalLine fault (string_bytes line)
IsJournalRefusal fault _ = ⊥
