-- What was read of a journal that is resumed, and what is visible of it.
use Rattle.std.proofs.Common.{◌≡◌, ◌≤◌, ◌≢◌, ◌⊎◌, ◌++◌, inl, inr, ℕ, List, [], ◌∷◌, flat_map, Option, Some, None, IfSome, IsSome, refl, sym, ap, ◌∙◌}
use Rattle.std.proofs.Common.{append_assoc, length, subst, unwrap_or}
use Rattle.edge_io.specs.Files.{Holds, IsLonger}
use Rattle.verdict_table.specs.declared.record.Record.{Record}
use Rattle.reduce_journal.specs.declared.digest.Digest.{Digest}
use Rattle.reduce_journal.specs.declared.head.Head.{Head}
use Rattle.reduce_journal.specs.declared.head.Head.TheVariants.{Version1, Version2}
use Rattle.reduce_journal.specs.declared.read.Journal.{Journal}
use Rattle.reduce_journal.specs.declared.read.JournalFault.{JournalFault}
use Rattle.reduce_journal.specs.declared.read.JournalFault.TheVariants as journal_fault
use Rattle.reduce_journal.specs.History.{History, records_of}
use Rattle.reduce_journal.specs.Journal.{IsBadAt, IsDigestOf, IsReadOf, IsStart, IsStartOf, LacksHead, event_text, head_text}
use Rattle.reduce_journal.proofs.Lent.{not_both, one_journal}
use Rattle.run_gated.specs.declared.known.Known.{Known}
use Rattle.command_ends.specs.declared.status.NamedFile.TheVariants as named
use Rattle.command_ends.specs.declared.status.Refusal.{Refusal}
use Rattle.command_ends.specs.declared.status.Refusal.TheVariants as refused
use Rattle.command_ends.specs.Status.{IsJournalRefusal, ReadFails}
use Rattle.command_ends.specs.World.{IsOver, IsQuiet, SeenFiles, WasRead, journal_limit}
use Rattle.command_ends.proofs.Lent.{not_longer, read_not_missing, read_not_over}
use Rattle.command_problem.proofs.Lent.{shown_holds}
use Rattle.command_words.specs.Commands.{ReduceOptions}
use Rattle.command_reduce.specs.Resume.{CanResume, IsKeptFrom, IsKnownOf, IsOfOther, IsRead, IsResumed, IsShownBad, IsShownOfOther}
use Rattle.command_reduce.specs.inner.Resume.{IsFaultOf, KeptFails, ResumeFails}

-- ---- the start of a journal

digest_is : (text : List ℕ) (one other : Digest) → IsDigestOf text one → IsDigestOf text other → one ≡ other
digest_is text one other p q = let same : one.bytes ≡ other.bytes = p.1 ∙ sym q.1 in λ i. record { bytes = same i }

start_is : (records : List Record) (one other : Option Digest) → IsStartOf records one → IsStartOf records other → one ≡ other
start_is [] one other p q = p ∙ sym q
start_is (r ∷ records) None other p q = absurd p
start_is (r ∷ records) (Some one) None p q = absurd q
start_is (r ∷ records) (Some one) (Some other) p q = ap (λ (d : Digest). Some d) (digest_is r.text one other p q)

one_start : (first : Head) (events : History) (one other : Option Digest) → IsStart first events one → IsStart first events other → one ≡ other
one_start Version1 events one other p q = start_is (records_of events) one other p q
one_start (Version2 digest) events one other p q = p ∙ sym q

-- bytes that are a journal have one
same_start : (bytes : List ℕ) (P Q : Option Digest → List Record → Type 0) (p : IsRead bytes P) (q : IsRead bytes Q) → p.start ≡ q.start
same_start bytes P Q p q =
    let is = one_journal bytes p.first q.first p.events q.events p.torn q.torn p.journal q.journal in
    one_start q.first q.events p.start q.start
    (subst (λ (f : Head). IsStart f q.events p.start) is.0 (subst (λ (h : History). IsStart p.first h p.start) is.1 p.of_start)) q.of_start

-- it isn't both this and another
conflict : (found : Option Digest) (start other : Digest) → IfSome found (λ digest. digest ≡ start) → found ≡ Some other → other ≢ start → ⊥
conflict None start other same is differs = absurd (cc is)
conflict (Some digest) start other same is differs = let here : digest ≡ other = cc is in differs (sym here ∙ same)

-- bytes that are a journal have a head, and are bad nowhere
not_journal : (bytes : List ℕ) (P : Option Digest → List Record → Type 0) → LacksHead bytes ⊎ ((offset : ℕ) × IsBadAt bytes offset) → IsRead bytes P → ⊥
not_journal bytes P (inl lacks) read =
    lacks read.first (flat_map event_text read.events ++ read.journal.tail) read.journal.before.is_head
    (read.journal.before.whole ∙ append_assoc (head_text read.first) (flat_map event_text read.events) read.journal.tail)
not_journal bytes P (inr bad) read = not_both bytes read.first read.events read.torn bad.0 read.journal bad.1

-- ---- what was kept, and what is visible

module _ (options : ReduceOptions) (files : SeenFiles) (path : List ℕ) (is_named : options.resume ≡ Some path) (start : List ℕ) where
  module _ (known : Known) (is : IsKnownOf options files start known) where
    kept_read : WasRead journal_limit (files.shown path) (λ bytes. IsRead bytes (IsResumed known.start known.kept))
    kept_read = subst (λ (resume : Option (List ℕ)). IsKeptFrom resume files known.start known.kept) is_named is.kept

    pub known_not_over : IsOver journal_limit (files.shown path) → ⊥
    known_not_over over = read_not_over kept_read over

    pub known_not_missing : files.shown path ≡ Some None → ⊥
    known_not_missing none = read_not_missing kept_read none

    pub known_not_other : IsShownOfOther path files start → ⊥
    known_not_other shown =
        let it : (other : Digest) × IsRead kept_read.bytes (IsOfOther shown.0 other) =
        shown_holds journal_limit (λ bytes. (other : Digest) × IsRead bytes (IsOfOther shown.0 other)) (files.shown path) shown.2 kept_read.bytes
        kept_read.read in
        let same : shown.0 ≡ known.start = digest_is start shown.0 known.start shown.1 is.start in
        let found : kept_read.holds.start ≡ it.1.start =
        same_start kept_read.bytes (IsResumed known.start known.kept) (IsOfOther shown.0 it.0) kept_read.holds it.1 in
        conflict kept_read.holds.start known.start it.0 kept_read.holds.holds.0 (found ∙ it.1.holds.0) (λ equal. it.1.holds.1 (equal ∙ sym same))

    pub known_not_bad : IsShownBad path files → ⊥
    known_not_bad shown =
        not_journal kept_read.bytes (IsResumed known.start known.kept)
        (shown_holds journal_limit (λ bytes. LacksHead bytes ⊎ ((offset : ℕ) × IsBadAt bytes offset)) (files.shown path) shown kept_read.bytes
        kept_read.read) kept_read.holds

  -- of another start
  module _ (digest other : Digest) (is_digest : IsDigestOf start digest)
      (read : WasRead journal_limit (files.shown path) (λ bytes. IsRead bytes (IsOfOther digest other))) where
    pub other_not_resumed : CanResume options.resume files start → ⊥
    other_not_resumed can =
        let at : CanResume (Some path) files start = subst (λ (resume : Option (List ℕ)). CanResume resume files start) is_named can in
        let it : IsRead read.bytes (λ found records. IfSome found (λ d. d ≡ at.0)) =
        shown_holds journal_limit (λ bytes. IsRead bytes (λ found records. IfSome found (λ d. d ≡ at.0))) (files.shown path) at.2 read.bytes read.read in
        let same : at.0 ≡ digest = digest_is start at.0 digest at.1 is_digest in
        let found : it.start ≡ read.holds.start =
        same_start read.bytes (λ found records. IfSome found (λ d. d ≡ at.0)) (IsOfOther digest other) it read.holds in
        conflict it.start at.0 other it.holds (found ∙ read.holds.holds.0) (λ equal. read.holds.holds.1 (equal ∙ same))

    pub other_not_bad : IsShownBad path files → ⊥
    other_not_bad shown =
        not_journal read.bytes (IsOfOther digest other)
        (shown_holds journal_limit (λ bytes. LacksHead bytes ⊎ ((offset : ℕ) × IsBadAt bytes offset)) (files.shown path) shown read.bytes read.read)
        read.holds

  -- no journal
  module _ (read : WasRead journal_limit (files.shown path) (λ bytes. LacksHead bytes ⊎ ((offset : ℕ) × IsBadAt bytes offset))) where
    pub bad_not_resumed : CanResume options.resume files start → ⊥
    bad_not_resumed can =
        let at : CanResume (Some path) files start = subst (λ (resume : Option (List ℕ)). CanResume resume files start) is_named can in
        not_journal read.bytes (λ found records. IfSome found (λ d. d ≡ at.0)) read.holds
        (shown_holds journal_limit (λ bytes. IsRead bytes (λ found records. IfSome found (λ d. d ≡ at.0))) (files.shown path) at.2 read.bytes read.read)

    pub bad_not_other : IsShownOfOther path files start → ⊥
    bad_not_other shown =
        let it : (other : Digest) × IsRead read.bytes (IsOfOther shown.0 other) =
        shown_holds journal_limit (λ bytes. (other : Digest) × IsRead bytes (IsOfOther shown.0 other)) (files.shown path) shown.2 read.bytes read.read in
        not_journal read.bytes (IsOfOther shown.0 it.0) read.holds it.1

  -- too long
  module _ (longer : IsLonger journal_limit (files.shown path)) where
    pub long_not_other : IsShownOfOther path files start → ⊥
    long_not_other shown =
        not_longer journal_limit (λ bytes. (other : Digest) × IsRead bytes (IsOfOther shown.0 other)) (files.shown path) shown.2 longer

    pub long_not_resumed : CanResume options.resume files start → ⊥
    long_not_resumed can =
        let at : CanResume (Some path) files start = subst (λ (resume : Option (List ℕ)). CanResume resume files start) is_named can in
        not_longer journal_limit (λ bytes. IsRead bytes (λ found records. IfSome found (λ d. d ≡ at.0))) (files.shown path) at.2 longer

pub long_not_bad : (files : SeenFiles) (path : List ℕ) → IsLonger journal_limit (files.shown path) → IsShownBad path files → ⊥
long_not_bad files path longer shown =
    not_longer journal_limit (λ bytes. LacksHead bytes ⊎ ((offset : ℕ) × IsBadAt bytes offset)) (files.shown path) shown longer

-- the path that is named
pub path_there : (resume : Option (List ℕ)) → IsSome resume → resume ≡ Some (unwrap_or resume [])
path_there None some = absurd (cc some)
path_there (Some path) some = refl

-- ---- how the code reads it

pub none_named : {A : Type 0} (o : Option A) → ((x : A) → o ≡ Some x → ⊥) → o ≡ None
none_named None not = refl
none_named (Some x) not = absurd (not x refl)

-- the file wasn't read
pub unread_fails : (path : List ℕ) (start : Digest) (old new : SeenFiles) (refusal : Refusal)
    → ReadFails journal_limit named.Journal (old.shown path) old new refusal → ResumeFails path start old new refusal
unread_fails path start old new (refused.Memory _) why = why
unread_fails path start old new (refused.CannotRead file) why = why
unread_fails path start old new (refused.TooLong file) why = why
unread_fails path start old new _ why = absurd why

module _ (path : List ℕ) (start : Digest) (old new : SeenFiles) (quiet : IsQuiet old new) (bytes : List ℕ)
    (held : Holds bytes (old.shown path)) (within : length bytes ≤ journal_limit) where
  whole : (P : List ℕ → Type 0) → P bytes → WasRead journal_limit (old.shown path) P
  whole P holds = record { bytes = bytes; read = held; within = within; holds = holds }

  -- it is no journal
  pub bad_fails : (fault : JournalFault) (refusal : Refusal) → IsJournalRefusal fault refusal
      → (fault ≡ journal_fault.BadHead → LacksHead bytes) → ((offset : ℕ) → fault ≡ journal_fault.BadRecord offset → IsBadAt bytes offset)
      → ResumeFails path start old new refusal
  bad_fails fault (refused.Memory _) is no_head bad = quiet
  bad_fails journal_fault.BadHead (refused.BadJournal line) is no_head bad =
      (journal_fault.BadHead, whole (IsFaultOf journal_fault.BadHead) (no_head refl), is, quiet)
  bad_fails (journal_fault.BadRecord offset) (refused.BadJournal line) is no_head bad =
      (journal_fault.BadRecord offset, whole (IsFaultOf (journal_fault.BadRecord offset)) (bad offset refl), is, quiet)
  bad_fails (journal_fault.Memory _) (refused.BadJournal line) is no_head bad = absurd is
  bad_fails fault _ is no_head bad = absurd is

  -- it is one
  module _ (journal : Journal) (of : IsReadOf bytes journal) where
    read_as : (P : Option Digest → List Record → Type 0) → P journal.start (records_of journal.events.items) → IsRead bytes P
    read_as P holds = record {
      first = of.0;
      events = of.1;
      torn = of.2;
      journal = of.3;
      start = journal.start;
      of_start = of.4.start;
      holds = subst (λ (h : History). P journal.start (records_of h)) of.4.events holds;
    }

    pub is_kept : (kept : List Record) → IsResumed start kept journal.start (records_of journal.events.items)
        → WasRead journal_limit (old.shown path) (λ read. IsRead read (IsResumed start kept))
    is_kept kept is = whole (λ read. IsRead read (IsResumed start kept)) (read_as (IsResumed start kept) is)

    pub kept_fails : (refusal : Refusal) → KeptFails start journal.start refusal → ResumeFails path start old new refusal
    kept_fails (refused.Memory _) why = quiet
    kept_fails (refused.OtherStart line) why =
        (why.0, whole (λ read. IsRead read (IsOfOther start why.0)) (read_as (IsOfOther start why.0) (why.1, why.2)), why.3, quiet)
    kept_fails _ why = absurd why
