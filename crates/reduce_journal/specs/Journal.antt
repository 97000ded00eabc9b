-- The bytes of a history, versions 1 and 2.
use Rattle.std.specs.Prelude.{◌≡◌, ◌≢◌, ℕ, true, false, Bool, List, [], ◌∷◌, ◌++◌, Option, Some, None, Result, Ok, Err, length, codes, decimal}
use Rattle.std.specs.List.{flat_map}
use Rattle.hex.specs.Hex.{IsBytes, encode_lower}
use Rattle.sha2.specs.Sha256.{sha256}
use Rattle.script_gate_trait.specs.declared.gate.Verdict.{Verdict}
use Rattle.script_gate_trait.specs.declared.gate.Verdict.TheVariants.{Yes, No}
use Rattle.verdict_table.specs.declared.record.Record.{Record}
use Rattle.reduce_journal.specs.declared.digest.Digest.{Digest}
use Rattle.reduce_journal.specs.declared.event.Event.{Event}
use Rattle.reduce_journal.specs.declared.event.Event.TheVariants.{Recorded, Committed}
use Rattle.reduce_journal.specs.declared.head.Head.{Head}
use Rattle.reduce_journal.specs.declared.head.Head.TheVariants.{Version1, Version2}
use Rattle.reduce_journal.specs.declared.read.Journal.{Journal}
use Rattle.reduce_journal.specs.declared.read.JournalFault.{JournalFault}
use Rattle.reduce_journal.specs.declared.read.JournalFault.TheVariants.{BadHead, BadRecord, Memory}
use Rattle.reduce_journal.specs.History.{History, records_of, MayFollow, AllMayFollow}

-- a digest has 32 bytes
abbrev pub IsDigest : Digest → Type 0
IsDigest digest = (length digest.bytes ≡ 32) × IsBytes digest.bytes

-- and this is the one of these bytes
abbrev pub IsDigestOf : List ℕ → Digest → Type 0
IsDigestOf bytes digest = IsDigest digest × (digest.bytes ≡ sha256 bytes)

-- the head of version 2: its first line, and one with the digest of the start in lower-case hexadecimal digits
abbrev pub head : Digest → List ℕ
head start = codes "perses-journal 2\nS " ++ (encode_lower start.bytes ++ codes "\n")

-- a prefix, a number in decimal digits without leading zeros, and a newline
abbrev pub line : List ℕ → ℕ → List ℕ
line prefix number = prefix ++ (decimal number ++ codes "\n")

-- what a record with this verdict begins with: R where a gate was asked, K where it was kept
abbrev pub record_prefix : Bool → Verdict → List ℕ
record_prefix false Yes = codes "R y "
record_prefix false No = codes "R n "
record_prefix true Yes = codes "K y "
record_prefix true No = codes "K n "

-- the bytes of an event: those of a record are a line with the length of its text in bytes, the text and a newline
abbrev pub event_text : Event → List ℕ
event_text (Recorded text verdict kept) = line (record_prefix kept verdict) (length text) ++ (text ++ codes "\n")
event_text (Committed number) = line (codes "C ") number

-- the bytes of a history, over a start with this digest
abbrev pub journal_text : Digest → History → List ℕ
journal_text start events = head start ++ flat_map event_text events

-- the head of a version: the second has the digest of the start
abbrev pub head_text : Head → List ℕ
head_text Version1 = codes "perses-journal 1\n"
head_text (Version2 start) = head start

abbrev pub version_of : Head → ℕ
version_of Version1 = 1
version_of (Version2 start) = 2

abbrev pub IsHead : Head → Type 0
IsHead Version1 = Unit {0}
IsHead (Version2 start) = IsDigest start

-- this is the digest of the start: of the first record's text in version 1, which has none without a record
abbrev pub IsStartOf : List Record → Option Digest → Type 0
IsStartOf [] start = start ≡ None
IsStartOf (r ∷ records) None = ⊥
IsStartOf (r ∷ records) (Some start) = IsDigestOf r.text start

-- and the one that the head has in version 2
abbrev pub IsStart : Head → History → Option Digest → Type 0
IsStart Version1 events start = IsStartOf (records_of events) start
IsStart (Version2 digest) events start = start ≡ Some digest

-- these bytes begin with no whole head
abbrev pub LacksHead : List ℕ → Type 0
LacksHead bytes = (first : Head) (rest : List ℕ) → IsHead first → bytes ≢ head_text first ++ rest

-- these bytes are the beginning of a head, and not all of it
abbrev pub IsHeadBegun : List ℕ → Type 0
IsHeadBegun bytes = (first : Head) × (rest : List ℕ) × IsHead first × (rest ≢ []) × (head_text first ≡ bytes ++ rest)

-- these bytes begin with an event that may come after so many records
abbrev pub BeginsWithEvent : (version records : ℕ) → List ℕ → Type 0
BeginsWithEvent version records bytes = (event : Event) × (rest : List ℕ) × MayFollow version records event × (bytes ≡ event_text event ++ rest)

-- these bytes are nothing, or the beginning of an event that may come after so many records, and not all of it
abbrev pub IsTorn : (version records : ℕ) → List ℕ → Type 0
IsTorn version records bytes = (event : Event) × (rest : List ℕ) × MayFollow version records event × (rest ≢ []) × (event_text event ≡ bytes ++ rest)

-- the bytes of a head and of events
abbrev pub text_under : Head → History → List ℕ
text_under first events = head_text first ++ flat_map event_text events

-- these bytes have this head, the events of a history, and then this tail
pub record HasEvents (bytes : List ℕ) (first : Head) (events : History) (tail : List ℕ) : Type 0 where
  pub is_head : IsHead first
  pub history : AllMayFollow (version_of first) 0 events
  pub whole : bytes ≡ text_under first events ++ tail

-- these bytes are a journal of this head and these events, with so many bytes of a torn tail
pub record IsJournalOf (bytes : List ℕ) (first : Head) (events : History) (torn : ℕ) : Type 0 where
  pub tail : List ℕ
  pub before : HasEvents bytes first events tail
  pub is_torn : IsTorn (version_of first) (length (records_of events)) tail
  pub torn_bytes : length tail ≡ torn

-- after a head and some events, at this offset, there is neither an event, nor the end, nor a torn tail
pub record IsBadAt (bytes : List ℕ) (offset : ℕ) : Type 0 where
  pub first : Head
  pub events : History
  pub tail : List ℕ
  pub before : HasEvents bytes first events tail
  pub at_offset : offset ≡ length (text_under first events)
  pub no_event : ¬ BeginsWithEvent (version_of first) (length (records_of events)) tail
  pub not_torn : ¬ IsTorn (version_of first) (length (records_of events)) tail

-- what is read is this: the version, the start's digest, the events, and the bytes of the torn tail
pub record IsReadAs (first : Head) (history : History) (bytes : ℕ) (journal : Journal) : Type 0 where
  pub version : journal.version ≡ version_of first
  pub start : IsStart first history journal.start
  pub events : journal.events.items ≡ history
  pub torn : journal.torn ≡ bytes

-- it is what some head and some history give that the bytes are a journal of
abbrev pub IsReadOf : List ℕ → Journal → Type 0
IsReadOf bytes journal = (first : Head) × (events : History) × (torn : ℕ) × IsJournalOf bytes first events torn × IsReadAs first events torn journal

-- what is read of a journal of this head and these events with so many torn bytes, unless memory runs out
abbrev pub GivesJournal : Head → History → ℕ → Result Journal JournalFault → Type 0
GivesJournal first events torn (Ok journal) = IsReadAs first events torn journal
GivesJournal first events torn (Err (Memory _)) = Unit {0}
GivesJournal first events torn (Err BadHead) = ⊥
GivesJournal first events torn (Err (BadRecord offset)) = ⊥
