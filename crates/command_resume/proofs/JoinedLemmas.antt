-- Two journals in one: event by event, what its records say, and that it can be read again.
use Rattle.std.proofs.Common.{◌≡◌, ◌<◌, ℕ, zero, suc, ◌+◌, List, [], ◌∷◌, ◌++◌, Bool, true, false, cond, Option, Some, None, is_some}
use Rattle.std.proofs.Common.{get_or, length, take, refl, sym, ap, ◌∙◌, subst, arith, append_assoc, append-nil}
use Rattle.std.specs.Prelude.{if◌then◌else◌}
use Rattle.std.specs.List.{flat_map}
use Rattle.std.specs.Option.{option_map}
use Rattle.std.specs.Str.{bytes_eq}
use Rattle.std.proofs.lemmas.List.{take_more}
use Rattle.std.proofs.lemmas.List.Concat.{flat_map-append}
use Rattle.std.proofs.lemmas.Slice.Eq.{bytes_eq-Decides}
use Rattle.edge_io.specs.Sink.{Put, with_piece}
use Rattle.script_gate_trait.specs.declared.gate.Verdict.{Verdict}
use Rattle.verdict_table.specs.declared.record.Record.{Record}
use Rattle.verdict_table.specs.Kept.{SameVerdicts}
use Rattle.verdict_table.specs.TableState.{verdict_in}
use Rattle.reduce_journal.specs.declared.digest.Digest.{Digest}
use Rattle.reduce_journal.specs.declared.event.Event.{Event}
use Rattle.reduce_journal.specs.declared.event.Event.TheVariants.{Recorded, Committed}
use Rattle.reduce_journal.specs.declared.read.Journal.{Journal}
use Rattle.reduce_journal.specs.History.{History, HasShortText, MayFollow, AllMayFollow, IsHistory, records_of, records_with}
use Rattle.reduce_journal.specs.Journal.{event_text, head, journal_text, version_of}
use Rattle.reduce_journal.proofs.Lent.{count_after}
use Rattle.command_resume.specs.Joined.{IsOfBytes, added_to, joined}

-- what the other's events add
abbrev missing : List Record → History → History
missing records other = flat_map (added_to records) other

-- ---- one event more

added_same : (known records : List Record) (e : Event) → SameVerdicts known records → added_to known e ≡ added_to records e
added_same known records (Recorded text verdict kept) same =
    ap (λ (o : Option Verdict). if is_some o then [] else (Recorded text verdict kept ∷ [])) (same text)
added_same known records (Committed number) same = refl

missing_more : (records : List Record) (other : History) (i : ℕ) (e : Event) → i < length other → e ≡ get_or other i e
    → missing records (take (i + 1) other) ≡ missing records (take i other) ++ added_to records e
missing_more records other i e within at =
    ap (missing records) (take_more other i e within ∙ ap (λ (d : Event). take i other ++ d ∷ []) (sym at))
    ∙ (flat_map-append (added_to records) (take i other) (e ∷ [])
    ∙ ap (λ (es : History). missing records (take i other) ++ es) (append-nil (added_to records e)))

pub joined_next : (one other : History) (known : List Record) (i : ℕ) (e : Event) (old new : History) → i < length other → e ≡ get_or other i e
    → SameVerdicts known (records_of one) → old ≡ joined one (take i other) → new ≡ old ++ added_to known e → new ≡ joined one (take (i + 1) other)
joined_next one other known i e old new within at same so_far added =
    let rs : List Record = records_of one in
    added ∙ ap (λ (es : History). es ++ added_to known e) so_far
    ∙ append_assoc one (missing rs (take i other)) (added_to known e)
    ∙ ap (λ (es : History). one ++ es)
    (ap (λ (es : History). missing rs (take i other) ++ es) (added_same known rs e same) ∙ sym (missing_more rs other i e within at))

-- ---- what its records say

records_append : (a b : History) → records_of (a ++ b) ≡ records_of a ++ records_of b
records_append [] b = refl
records_append (Recorded text verdict kept ∷ a) b = ap (λ (rs : List Record). record { text = text; verdict = verdict } ∷ rs) (records_append a b)
records_append (Committed number ∷ a) b = records_append a b

-- the first of two verdicts that there is
abbrev first_of : Option Verdict → Option Verdict → Option Verdict
first_of o p = if is_some o then o else p

verdict_append : (a b : List Record) (text : List ℕ) → verdict_in (a ++ b) text ≡ first_of (verdict_in a text) (verdict_in b text)
verdict_append [] b text = refl
verdict_append (r ∷ a) b text = at (bytes_eq text r.text) (verdict_append a b text)
  where
    at : (same : Bool) → verdict_in (a ++ b) text ≡ first_of (verdict_in a text) (verdict_in b text)
        → cond same (Some r.verdict) (verdict_in (a ++ b) text) ≡ first_of (cond same (Some r.verdict) (verdict_in a text)) (verdict_in b text)
    at true later = refl
    at false later = later

-- a text without a verdict among the records has the same one among what is missing and among all of the other's
missing_same : (records : List Record) (other : History) (text : List ℕ) → verdict_in records text ≡ None
    → verdict_in (records_of (missing records other)) text ≡ verdict_in (records_of other) text
missing_same records [] text none = refl
missing_same records (Committed number ∷ other) text none = missing_same records other text none
missing_same records (Recorded t verdict kept ∷ other) text none = by (verdict_in records t) refl (missing_same records other text none)
  where
    differs : (known : Verdict) (same : Bool) → bytes_eq text t ≡ same → verdict_in records t ≡ Some known
        → verdict_in (records_of other) text ≡ cond same (Some verdict) (verdict_in (records_of other) text)
    differs known false is there = refl
    differs known true is there =
        let no : ◌≡◌ {A = Option Verdict} None (Some known) = sym none ∙ (ap (verdict_in records) ((bytes_eq-Decides text t).0 is) ∙ there) in
        absurd (cc no)

    by : (o : Option Verdict) → verdict_in records t ≡ o → verdict_in (records_of (missing records other)) text ≡ verdict_in (records_of other) text
        → verdict_in (records_of ((if is_some o then [] else (Recorded t verdict kept ∷ [])) ++ missing records other)) text
        ≡ cond (bytes_eq text t) (Some verdict) (verdict_in (records_of other) text)
    by None is later = ap (λ (o : Option Verdict). cond (bytes_eq text t) (Some verdict) o) later
    by (Some known) is later = later ∙ differs known (bytes_eq text t) refl is

pub first_records : (one other : History) → SameVerdicts (records_of (joined one other)) (records_of one ++ records_of other)
first_records one other text =
    ap (λ (rs : List Record). verdict_in rs text) (records_append one (missing (records_of one) other))
    ∙ (verdict_append (records_of one) (records_of (missing (records_of one) other)) text
    ∙ (by (verdict_in (records_of one) text) refl ∙ sym (verdict_append (records_of one) (records_of other) text)))
  where
    by : (o : Option Verdict) → verdict_in (records_of one) text ≡ o
        → first_of o (verdict_in (records_of (missing (records_of one) other)) text) ≡ first_of o (verdict_in (records_of other) text)
    by (Some known) is = refl
    by None is = missing_same (records_of one) other text is

-- ---- it can be read again

-- an event of some version may come where it is in version 2
in_version_2 : (version records : ℕ) (e : Event) → MayFollow version records e → MayFollow 2 records e
in_version_2 version records (Recorded text verdict false) p = record { of_version = tt; text = p.text; names = tt }
in_version_2 version records (Recorded text verdict true) p = record { of_version = refl; text = p.text; names = tt }
in_version_2 version records (Committed number) p = record { of_version = tt; text = tt; names = p.names }

-- and a record anywhere
record_anywhere : (version records k : ℕ) (text : List ℕ) (verdict : Verdict) (kept : Bool) → MayFollow version records (Recorded text verdict kept)
    → MayFollow 2 k (Recorded text verdict kept)
record_anywhere version records k text verdict false p = record { of_version = tt; text = p.text; names = tt }
record_anywhere version records k text verdict true p = record { of_version = refl; text = p.text; names = tt }

missing_follows : (k : ℕ) (known : List Record) (version records : ℕ) (other : History) → AllMayFollow version records other
    → AllMayFollow 2 k (missing known other)
missing_follows k known version records [] all = tt
missing_follows k known version records (Committed number ∷ other) all = missing_follows k known version records other all.1
missing_follows k known version records (Recorded text verdict kept ∷ other) all =
    by (verdict_in known text) (missing_follows k known version (suc records) other all.1)
    (missing_follows (suc k) known version (suc records) other all.1)
  where
    by : (o : Option Verdict) → AllMayFollow 2 k (missing known other) → AllMayFollow 2 (suc k) (missing known other)
        → AllMayFollow 2 k ((if is_some o then [] else (Recorded text verdict kept ∷ [])) ++ missing known other)
    by (Some v) as_before one_later = as_before
    by None as_before one_later = (record_anywhere version records k text verdict kept all.0, one_later)

joined_follows : (version records : ℕ) (a b : History) → AllMayFollow version records a → AllMayFollow 2 (count_after records a) b
    → AllMayFollow 2 records (a ++ b)
joined_follows version records [] b all later = later
joined_follows version records (e ∷ a) b all later =
    (in_version_2 version records e all.0, joined_follows version (records_with records e) a b all.1 later)

-- the events that were read may come where they are
read_follow : (journal : Journal) → IsOfBytes journal → (version : ℕ) × AllMayFollow version 0 journal.events.items
read_follow journal is =
    let read = is.1 in
    (version_of read.0, subst (λ (es : History). AllMayFollow (version_of read.0) 0 es) (sym read.4.events) read.3.before.history)

pub joined_history : (one other : Journal) → IsOfBytes one → IsOfBytes other → IsHistory (joined one.events.items other.events.items)
joined_history one other p q =
    let a = read_follow one p in
    let b = read_follow other q in
    joined_follows a.0 0 one.events.items (missing (records_of one.events.items) other.events.items) a.1
    (missing_follows (count_after 0 one.events.items) (records_of one.events.items) b.0 0 other.events.items b.1)

-- each event of a history can be written
pub short_at : (version records : ℕ) (events : History) (i : ℕ) (e : Event) → i < length events → e ≡ get_or events i e
    → AllMayFollow version records events → HasShortText e
short_at version records [] i e within at all = absurd (omega (arith, within))
short_at version records (a ∷ events) zero e within at all = subst HasShortText (sym at) all.0.text
short_at version records (a ∷ events) (suc i) e within at all =
    short_at version (records_with records a) events i e (omega (arith, within)) at all.1

-- ---- its bytes

two_pieces : (a b : List ℕ) (old : Option Put) → option_map (with_piece b) (option_map (with_piece a) old) ≡ option_map (with_piece (a ++ b)) old
two_pieces a b None = refl
two_pieces a b (Some put) = ap (λ bytes. Some (record put { bytes = bytes })) (append_assoc put.bytes a b)

-- the head alone is the journal without events
pub none_written : (start : Digest) (old new : Option Put) → new ≡ option_map (with_piece (head start)) old
    → new ≡ option_map (with_piece (journal_text start [])) old
none_written start old new is = is ∙ ap (λ (piece : List ℕ). option_map (with_piece piece) old) (sym (append-nil (head start)))

text_more : (start : Digest) (events : History) (i : ℕ) (e : Event) → i < length events → e ≡ get_or events i e
    → journal_text start (take i events) ++ event_text e ≡ journal_text start (take (i + 1) events)
text_more start events i e within at =
    append_assoc (head start) (flat_map event_text (take i events)) (event_text e)
    ∙ ap (λ (texts : List ℕ). head start ++ texts)
    (sym (ap (flat_map event_text) (take_more events i e within ∙ ap (λ (d : Event). take i events ++ d ∷ []) (sym at))
    ∙ (flat_map-append event_text (take i events) (e ∷ [])
    ∙ ap (λ (texts : List ℕ). flat_map event_text (take i events) ++ texts) (append-nil (event_text e)))))

pub one_written : (start : Digest) (events : History) (i : ℕ) (e : Event) (old mid new : Option Put) → i < length events → e ≡ get_or events i e
    → mid ≡ option_map (with_piece (journal_text start (take i events))) old → new ≡ option_map (with_piece (event_text e)) mid
    → new ≡ option_map (with_piece (journal_text start (take (i + 1) events))) old
one_written start events i e old mid new within at so_far added =
    added ∙ (ap (option_map (with_piece (event_text e))) so_far
    ∙ (two_pieces (journal_text start (take i events)) (event_text e) old
    ∙ ap (λ (piece : List ℕ). option_map (with_piece piece) old) (text_more start events i e within at)))
