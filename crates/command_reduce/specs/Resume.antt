-- The journal that `--resume` names.
use Rattle.std.specs.Prelude.{◌≡◌, ◌≢◌, ◌⊎◌, ℕ, List, [], Option, Some, None, IfSome}
use Rattle.verdict_table.specs.declared.record.Record.{Record}
use Rattle.verdict_table.specs.Kept.{SameVerdicts}
use Rattle.reduce_journal.specs.declared.digest.Digest.{Digest}
use Rattle.reduce_journal.specs.declared.head.Head.{Head}
use Rattle.reduce_journal.specs.History.{History, records_of}
use Rattle.reduce_journal.specs.Journal.{IsBadAt, IsDigestOf, IsJournalOf, IsStart, LacksHead}
use Rattle.run_gated.specs.declared.known.Known.{Known}
use Rattle.command_words.specs.Commands.{ReduceOptions}
use Rattle.command_ends.specs.World.{IsShownWithin, SeenFiles, WasRead, journal_limit}

-- the bytes are a journal, and the fact holds of the digest of its start, where it has one, and of its records; a torn tail is passed over
pub record IsRead (bytes : List ℕ) (P : Option Digest → List Record → Type 0) : Type 0 where
  pub first : Head
  pub events : History
  pub torn : ℕ
  pub journal : IsJournalOf bytes first events torn
  pub start : Option Digest
  pub of_start : IsStart first events start
  pub holds : P start (records_of events)

-- a journal of this start or of no start, whose records give each text the verdict that is kept for it: that of its first record
abbrev pub IsResumed : Digest → List Record → Option Digest → List Record → Type 0
IsResumed start kept found records = IfSome found (λ digest. digest ≡ start) × SameVerdicts kept records

-- The verdicts that are kept in a run over this start: none without `--resume`; with it those of the journal's records.
abbrev pub IsKeptFrom : Option (List ℕ) → SeenFiles → Digest → List Record → Type 0
IsKeptFrom None files start kept = kept ≡ []
IsKeptFrom (Some path) files start kept = WasRead journal_limit (files.shown path) (λ bytes. IsRead bytes (IsResumed start kept))

-- what is known before a run over this start: its digest, and the verdicts that are kept
pub record IsKnownOf (options : ReduceOptions) (files : SeenFiles) (text : List ℕ) (known : Known) : Type 0 where
  pub start : IsDigestOf text known.start
  pub kept : IsKeptFrom options.resume files known.start known.kept

-- the journal is of this other start
abbrev pub IsOfOther : Digest → Digest → Option Digest → List Record → Type 0
IsOfOther start other found records = (found ≡ Some other) × (other ≢ start)

-- what is visible of the files: no journal is named, or the one that is is within its limit and can be resumed over this start
abbrev pub CanResume : Option (List ℕ) → SeenFiles → List ℕ → Type 0
CanResume None files start = Unit {0}
CanResume (Some path) files start =
    (digest : Digest) × IsDigestOf start digest
    × IsShownWithin journal_limit (files.shown path) (λ bytes. IsRead bytes (λ found records. IfSome found (λ other. other ≡ digest)))

-- it is visible, within its limit, and this holds of it: it is of another start than this; or it is no journal
abbrev pub IsShownOfOther : List ℕ → SeenFiles → List ℕ → Type 0
IsShownOfOther path files start =
    (digest : Digest) × IsDigestOf start digest
    × IsShownWithin journal_limit (files.shown path) (λ bytes. (other : Digest) × IsRead bytes (IsOfOther digest other))

abbrev pub IsShownBad : List ℕ → SeenFiles → Type 0
IsShownBad path files = IsShownWithin journal_limit (files.shown path) (λ bytes. LacksHead bytes ⊎ ((offset : ℕ) × IsBadAt bytes offset))
