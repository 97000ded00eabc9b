-- What is visible of the files, the gates, the journal and `out` at one moment, and what may have become of each since.
use Rattle.std.specs.Prelude.{◌≡◌, ◌<◌, ◌≤◌, ◌⊎◌, ℕ, List, [], ◌∷◌, ◌++◌, length, map, Option, IsSomeAnd, option_map, codes}
use Rattle.faults.specs.Count.{one_more}
use Rattle.edge_io.specs.Files.{FileContent, Holds, SameFiles}
use Rattle.edge_io.specs.FileCalls.{FileCall, WereMade, failed_call, good_call}
use Rattle.edge_io.specs.declared.file_call.FileAction.TheVariants.{Read, Write}
use Rattle.edge_io.specs.Sink.{Put, GrewByPrefix, with_piece}
use Rattle.reduce_step.specs.Limits.{text_limit}
use Rattle.reduce_journal.specs.History.{History}
pub use Rattle.run_gated.specs.Seen.{AreQuiet, CallFailed, GateFailed, IsQuiet, Seen, SeenGate, SeenJournal, fault_counts_of, logs_of, seen, seen_gates}

-- the content of each file, and what was put on `out`, each where it is visible
abbrev pub SeenFiles : Type 0
SeenFiles = Seen (List ℕ → Option FileContent)

abbrev pub SeenOut : Type 0
SeenOut = Seen (Option Put)

-- the calls of the files, in their order, where they are visible
abbrev pub SeenCalls : Type 0
SeenCalls = Option (List FileCall)

-- reads of the files of these paths, in this order, none of which failed
abbrev pub reads_of : List (List ℕ) → List FileCall
reads_of paths = map (good_call Read) paths

-- the files of these paths were read, in this order, no read failed, and nothing else was asked of a file
abbrev pub WereRead : List (List ℕ) → SeenCalls → SeenCalls → Type 0
WereRead paths old new = WereMade (reads_of paths) old new

-- the same of the first of these paths, of none or of all
abbrev pub SomeRead : List (List ℕ) → SeenCalls → SeenCalls → Type 0
SomeRead paths old new = (before : List (List ℕ)) × (after : List (List ℕ)) × (paths ≡ before ++ after) × WereRead before old new

-- these were read so, and then a read failed of the file of this path
abbrev pub UnreadAfter : List (List ℕ) → List ℕ → SeenCalls → SeenCalls → Type 0
UnreadAfter paths path old new = WereMade (reads_of paths ++ failed_call Read path ∷ []) old new

-- these were read so, and then the file of this path was written; or its write failed
abbrev pub WrittenAfter : List (List ℕ) → List ℕ → SeenCalls → SeenCalls → Type 0
WrittenAfter paths path old new = WereMade (reads_of paths ++ good_call Write path ∷ []) old new

abbrev pub UnwrittenAfter : List (List ℕ) → List ℕ → SeenCalls → SeenCalls → Type 0
UnwrittenAfter paths path old new = WereMade (reads_of paths ++ failed_call Write path ∷ []) old new

-- a call failed of the gate of one of so many workers
abbrev pub AnyGateFailed : ℕ → List SeenGate → List SeenGate → Type 0
AnyGateFailed workers old new = (worker : ℕ) × (worker ≤ workers) × GateFailed worker old new

-- all that a command may reach
pub record World : Type 0 where
  pub files : SeenFiles
  pub calls : SeenCalls
  -- those of the workers, in the order of their numbers
  pub gates : List SeenGate
  pub journal : SeenJournal
  pub out : SeenOut

-- every file is as before, and no call of the files failed
pub record FilesKept (old new : SeenFiles) : Type 0 where
  pub same : SameFiles old.shown new.shown
  pub quiet : IsQuiet old new

-- Every file is as before, no call of the files failed, and these were read, in this order, and nothing else was asked of a file.
pub record FilesRead (paths : List (List ℕ)) (old new : World) : Type 0 where
  pub same : SameFiles old.files.shown new.files.shown
  pub quiet : IsQuiet old.files new.files
  pub reads : WereRead paths old.calls new.calls

-- The same of the first of these.
pub record SomeFilesRead (paths : List (List ℕ)) (old new : World) : Type 0 where
  pub same : SameFiles old.files.shown new.files.shown
  pub quiet : IsQuiet old.files new.files
  pub reads : SomeRead paths old.calls new.calls

-- neither a gate nor the journal was reached: nothing was recorded, and all are as before
pub record NotReached (history : History) (old new : World) : Type 0 where
  pub no_history : history ≡ []
  pub gates : new.gates ≡ old.gates
  pub journal : new.journal ≡ old.journal

-- the piece was put whole
pub record Puts (piece : List ℕ) (old new : SeenOut) : Type 0 where
  pub whole : new.shown ≡ option_map (with_piece piece) old.shown
  pub quiet : IsQuiet old new

-- some prefix of the piece was put, since the put failed
pub record PutsPrefix (piece : List ℕ) (old new : SeenOut) : Type 0 where
  pub prefix : GrewByPrefix piece old.shown new.shown
  pub failed : CallFailed old new

-- one put was made, where the number of puts is visible
abbrev pub OnePut : Option ℕ → Option ℕ → Type 0
OnePut old new = new ≡ option_map one_more old

-- the line was put, or some prefix of it where the put failed
abbrev pub PutsLine : List ℕ → SeenOut → SeenOut → Type 0
PutsLine line old new = Puts line old new ⊎ PutsPrefix line old new

-- a line on `out`: the program's name, the text, and a newline (10)
abbrev pub line_of_text : List ℕ → List ℕ
line_of_text text = codes "perses: " ++ (text ++ 10 ∷ [])

-- the line of this text was put, or some prefix of it where the put failed
abbrev pub PutsMessage : List ℕ → SeenOut → SeenOut → Type 0
PutsMessage text old new = PutsLine (line_of_text text) old new

-- the most bytes of an input, of each file of a grammar, of the result of a run that is checked, and of a journal that is read
abbrev pub input_limit : ℕ
input_limit = text_limit

abbrev pub grammar_limit : ℕ
grammar_limit = 1048576

abbrev pub result_limit : ℕ
result_limit = 1048576

abbrev pub journal_limit : ℕ
journal_limit = 1073741824

-- The file was read whole, within the limit, and the fact holds of its bytes. Where its content isn't visible, the fact holds of some bytes.
pub record WasRead (limit : ℕ) (content : Option FileContent) (P : List ℕ → Type 0) : Type 0 where
  pub bytes : List ℕ
  pub read : Holds bytes content
  pub within : length bytes ≤ limit
  pub holds : P bytes

-- the content is visible, the file is there and has at most so many bytes, and the fact holds of them
abbrev pub IsShownWithin : ℕ → Option FileContent → (List ℕ → Type 0) → Type 0
IsShownWithin limit content P = IsSomeAnd content (λ file. IsSomeAnd file (λ bytes. (length bytes ≤ limit) × P bytes))

-- the content is visible, the file is there and has more bytes than this
abbrev pub IsOver : ℕ → Option FileContent → Type 0
IsOver limit content = IsSomeAnd content (λ file. IsSomeAnd file (λ bytes. limit < length bytes))
