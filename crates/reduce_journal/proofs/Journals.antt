-- Journals: each list of bytes has one history, and a journal that is cut off has the first events.
use Rattle.std.proofs.Common.{◌≡◌, ◌≢◌, ◌⊎◌, inl, inr, ℕ, suc, ◌+◌, ◌-◌, ◌^◌, ◌<◌, ◌≤◌, List, [], ◌∷◌, ◌++◌, Ok, Err, length}
use Rattle.std.proofs.Common.{true, false, refl, sym, ap, ◌∙◌, subst, arith, append_assoc, append-nil, length-append}
use Rattle.std.specs.List.{flat_map}
use Rattle.std.specs.Prelude.{IsErrOf}
use Rattle.faults.specs.Memory.{ran_out}
use Rattle.script_gate_trait.specs.declared.gate.Verdict.TheVariants.{Yes, No}
use Rattle.reduce_journal.specs.declared.digest.Digest.{Digest}
use Rattle.reduce_journal.specs.declared.event.Event.{Event}
use Rattle.reduce_journal.specs.declared.event.Event.TheVariants.{Recorded, Committed}
use Rattle.reduce_journal.specs.declared.numbers.Mismatch.TheVariants.{Torn, Bad}
use Rattle.reduce_journal.specs.declared.head.Head.{Head}
use Rattle.reduce_journal.specs.declared.head.Head.TheVariants.{Version2}
use Rattle.reduce_journal.specs.declared.read.Journal.{Journal}
use Rattle.reduce_journal.specs.declared.read.JournalFault.{JournalFault}
use Rattle.reduce_journal.specs.declared.read.JournalFault.TheVariants.{BadHead, BadRecord, Memory}
use Rattle.reduce_journal.specs.History.{History, records_of, records_with, MayFollow, AllMayFollow, IsHistory}
use Rattle.reduce_journal.specs.Journal.{head, head_text, text_under, version_of, event_text, journal_text, IsDigest, IsHead}
use Rattle.reduce_journal.specs.Journal.{BeginsWithEvent, IsTorn, HasEvents, IsJournalOf, IsBadAt, IsReadAs, GivesJournal}
use Rattle.reduce_journal.specs.inner.Reading.{event_at}
use Rattle.reduce_journal.proofs.Lists.{cut_apart, same_found, some_after}
use Rattle.reduce_journal.proofs.Events.{event_decides}
use Rattle.reduce_journal.proofs.Heads.{one_head}

-- the bytes of events, without a head
abbrev pub texts : History → List ℕ
texts events = flat_map event_text events

-- an event that may come after some records may come after the most that there are, in version 2
wider : (version records : ℕ) (e : Event) → MayFollow version records e → MayFollow 2 (2 ^ 64 - 1) e
wider version records (Recorded text verdict false) p = record { of_version = tt; text = p.text; names = tt }
wider version records (Recorded text verdict true) p = record { of_version = refl; text = p.text; names = tt }
wider version records (Committed number) p = record { of_version = tt; text = tt; names = (p.names.0, omega (arith, p.names), p.names.2) }

-- and an event of some version may come there in version 2
in_version_2 : (version records : ℕ) (e : Event) → MayFollow version records e → MayFollow 2 records e
in_version_2 version records (Recorded text verdict false) p = record { of_version = tt; text = p.text; names = tt }
in_version_2 version records (Recorded text verdict true) p = record { of_version = refl; text = p.text; names = tt }
in_version_2 version records (Committed number) p = record { of_version = tt; text = tt; names = p.names }

all_in_version_2 : (version records : ℕ) (events : History) → AllMayFollow version records events → AllMayFollow 2 records events
all_in_version_2 version records [] all = tt
all_in_version_2 version records (e ∷ events) all =
    (in_version_2 version records e all.0, all_in_version_2 version (records_with records e) events all.1)

-- so the events of a journal are a history
pub is_history : (bytes : List ℕ) (first : Head) (events : History) (torn : ℕ) → IsJournalOf bytes first events torn → IsHistory events
is_history bytes first events torn is = all_in_version_2 (version_of first) 0 events is.before.history

-- no event's text begins another's
one_event : (v k w l : ℕ) (a b : Event) (x y : List ℕ) → MayFollow v k a → MayFollow w l b → event_text a ++ x ≡ event_text b ++ y → (a ≡ b) × (x ≡ y)
one_event v k w l a b x y p q e =
    let d = event_decides 2 (2 ^ 64 - 1) (omega arith) in
    let is = same_found _ _ (sym (d.back a x (wider v k a p)) ∙ (ap (event_at 2 (2 ^ 64 - 1)) e ∙ d.back b y (wider w l b q))) in
    (ap (λ (f : Event × List ℕ). f.0) is, ap (λ (f : Event × List ℕ). f.1) is)

-- a torn tail has no event
torn_no_event : (v k w l : ℕ) (bytes : List ℕ) → IsTorn v k bytes → BeginsWithEvent w l bytes → ⊥
torn_no_event v k w l bytes torn begins =
    let e : event_text torn.0 ++ [] ≡ event_text begins.0 ++ (begins.1 ++ torn.1) =
    append-nil (event_text torn.0) ∙ (torn.4 ∙ (ap (λ t. t ++ torn.1) begins.3 ∙ append_assoc (event_text begins.0) begins.1 torn.1)) in
    some_after begins.1 torn.1 torn.3 (sym (one_event v k w l torn.0 begins.0 [] (begins.1 ++ torn.1) torn.2 begins.2 e).1)

-- how many records there are after these events
abbrev pub count_after : ℕ → History → ℕ
count_after k [] = k
count_after k (e ∷ events) = count_after (records_with k e) events

count_is : (k : ℕ) (events : History) → count_after k events ≡ k + length (records_of events)
count_is k [] = omega arith
count_is k (Recorded text verdict kept ∷ events) = let rest = count_is (suc k) events in omega (arith, rest)
count_is k (Committed number ∷ events) = count_is k events

pub count_from_none : (events : History) → count_after 0 events ≡ length (records_of events)
count_from_none events = omega (arith, count_is 0 events)

-- events up to a place where no event is are determined by the bytes
one_history : (v k : ℕ) (one other : History) (s t : List ℕ) → AllMayFollow v k one → AllMayFollow v k other → texts one ++ s ≡ texts other ++ t
    → ¬ BeginsWithEvent v (count_after k one) s → ¬ BeginsWithEvent v (count_after k other) t → (one ≡ other) × (s ≡ t)
one_history v k [] [] s t p q e no_s no_t = (refl, e)
one_history v k [] (b ∷ other) s t p q e no_s no_t =
    absurd (no_s (b, texts other ++ t, q.0, e ∙ append_assoc (event_text b) (texts other) t))
one_history v k (a ∷ one) [] s t p q e no_s no_t =
    absurd (no_t (a, texts one ++ s, p.0, sym e ∙ append_assoc (event_text a) (texts one) s))
one_history v k (a ∷ one) (b ∷ other) s t p q e no_s no_t =
    let is = one_event v k v k a b (texts one ++ s) (texts other ++ t) p.0 q.0
    (sym (append_assoc (event_text a) (texts one) s) ∙ (e ∙ append_assoc (event_text b) (texts other) t)) in
    let same : records_with k b ≡ records_with k a = ap (records_with k) (sym is.0) in
    let rest = one_history v (records_with k a) one other s t p.1 (subst (λ n. AllMayFollow v n other) same q.1) is.1
    no_s (subst (λ n. ¬ BeginsWithEvent v (count_after n other) t) same no_t) in
    (ap (λ c. c ∷ one) is.0 ∙ ap (λ r. b ∷ r) rest.0, rest.1)

-- the bytes after the head
after_head : (bytes : List ℕ) (first : Head) (events : History) (tail : List ℕ) → HasEvents bytes first events tail
    → bytes ≡ head_text first ++ (texts events ++ tail)
after_head bytes first events tail has = has.whole ∙ append_assoc (head_text first) (texts events) tail

-- two readings of the same bytes have one head
same_head : (bytes : List ℕ) (first second : Head) (one other : History) (s t : List ℕ) → HasEvents bytes first one s → HasEvents bytes second other t
    → (first ≡ second) × (texts one ++ s ≡ texts other ++ t)
same_head bytes first second one other s t p q =
    one_head first second (texts one ++ s) (texts other ++ t) p.is_head q.is_head (sym (after_head bytes first one s p) ∙ after_head bytes second other t q)

same_events : (bytes : List ℕ) (first second : Head) (one other : History) (s t : List ℕ) → HasEvents bytes first one s → HasEvents bytes second other t
    → ¬ BeginsWithEvent (version_of first) (length (records_of one)) s → ¬ BeginsWithEvent (version_of second) (length (records_of other)) t
    → (first ≡ second) × (one ≡ other) × (s ≡ t)
same_events bytes first second one other s t p q no_s no_t =
    let heads = same_head bytes first second one other s t p q in
    let version : version_of second ≡ version_of first = ap version_of (sym heads.0) in
    let is = one_history (version_of first) 0 one other s t p.history (subst (λ v. AllMayFollow v 0 other) version q.history) heads.1
    (subst (λ n. ¬ BeginsWithEvent (version_of first) n s) (sym (count_from_none one)) no_s)
    (subst (λ n. ¬ BeginsWithEvent (version_of first) n t) (sym (count_from_none other))
    (subst (λ v. ¬ BeginsWithEvent v (length (records_of other)) t) version no_t)) in
    (heads.0, is.0, is.1)

journal_ends : (bytes : List ℕ) (first : Head) (events : History) (torn : ℕ) (j : IsJournalOf bytes first events torn)
    → ¬ BeginsWithEvent (version_of first) (length (records_of events)) j.tail
journal_ends bytes first events torn j =
    torn_no_event (version_of first) (length (records_of events)) (version_of first) (length (records_of events)) j.tail j.is_torn

pub one_journal : (bytes : List ℕ) (first second : Head) (one other : History) (torn torn_other : ℕ) → IsJournalOf bytes first one torn
    → IsJournalOf bytes second other torn_other → (first ≡ second) × (one ≡ other) × (torn ≡ torn_other)
one_journal bytes first second one other torn torn_other p q =
    let is =
    same_events bytes first second one other p.tail q.tail p.before q.before (journal_ends bytes first one torn p)
    (journal_ends bytes second other torn_other q) in
    (is.0, is.1, sym p.torn_bytes ∙ (ap length is.2 ∙ q.torn_bytes))

pub not_both : (bytes : List ℕ) (first : Head) (events : History) (torn offset : ℕ) → IsJournalOf bytes first events torn → IsBadAt bytes offset → ⊥
not_both bytes first events torn offset p q =
    let is = same_events bytes first q.first events q.events p.tail q.tail p.before q.before (journal_ends bytes first events torn p) q.no_event in
    q.not_torn (subst (λ t. IsTorn (version_of q.first) (length (records_of q.events)) t) is.2
    (subst (λ h. IsTorn (version_of q.first) (length (records_of h)) p.tail) is.1
    (subst (λ f. IsTorn (version_of f) (length (records_of events)) p.tail) is.0 p.is_torn)))

pub one_bad : (bytes : List ℕ) (offset other : ℕ) → IsBadAt bytes offset → IsBadAt bytes other → offset ≡ other
one_bad bytes offset other p q =
    let is = same_events bytes p.first q.first p.events q.events p.tail q.tail p.before q.before p.no_event q.no_event in
    p.at_offset ∙ (ap (λ h. length (text_under p.first h)) is.1 ∙ (ap (λ f. length (text_under f q.events)) is.0 ∙ sym q.at_offset))

-- what was read is what any reading of these bytes gives
read_same : (first second : Head) (one other : History) (torn torn_other : ℕ) (journal : Journal) → first ≡ second → one ≡ other → torn ≡ torn_other
    → IsReadAs first one torn journal → IsReadAs second other torn_other journal
read_same first second one other torn torn_other journal heads events tails is =
    subst (λ f. IsReadAs f other torn_other journal) heads
    (subst (λ h. IsReadAs first h torn_other journal) events (subst (λ n. IsReadAs first one n journal) tails is))

pub read_again : (bytes : List ℕ) (first second : Head) (one other : History) (torn torn_other : ℕ) (journal : Journal) → IsJournalOf bytes first one torn
    → IsReadAs first one torn journal → IsJournalOf bytes second other torn_other → IsReadAs second other torn_other journal
read_again bytes first second one other torn torn_other journal found read is =
    let same = one_journal bytes first second one other torn torn_other found is in
    read_same first second one other torn torn_other journal same.0 same.1 same.2 read

-- why nothing was read, of bytes that are a journal, or that are bad at some offset
module _ {A : Type 0} (bytes : List ℕ) where
  pub fails_as_journal : (fault : JournalFault) → ¬ IsErrOf {T = A} (Err fault) BadHead
      → ((offset : ℕ) → IsErrOf {T = A} (Err fault) (BadRecord offset) → IsBadAt bytes offset) → (first : Head) (events : History) (torn : ℕ)
      → IsJournalOf bytes first events torn → GivesJournal first events torn (Err fault)
  fails_as_journal (Memory _) headed bad first events torn is = tt
  fails_as_journal BadHead headed bad first events torn is = headed refl
  fails_as_journal (BadRecord offset) headed bad first events torn is = not_both bytes first events torn offset is (bad offset refl)

  pub fails_as_bad : (fault : JournalFault) → ¬ IsErrOf {T = A} (Err fault) BadHead
      → ((offset : ℕ) → IsErrOf {T = A} (Err fault) (BadRecord offset) → IsBadAt bytes offset) → (offset : ℕ) → IsBadAt bytes offset
      → IsErrOf {T = Journal} (Err fault) (BadRecord offset) ⊎ IsErrOf {T = Journal} (Err fault) (Memory ran_out)
  fails_as_bad (Memory _) headed bad offset is = inr refl
  fails_as_bad BadHead headed bad offset is = absurd (headed refl)
  fails_as_bad (BadRecord other) headed bad offset is = inl (ap (λ (o : ℕ). Err (BadRecord o)) (one_bad bytes other offset (bad other refl) is))

-- nothing is torn off where the bytes end
nothing_torn : (v k : ℕ) → IsTorn v k []
nothing_torn v k = (Recorded [] Yes false, event_text (Recorded [] Yes false), record { of_version = tt; text = omega arith; names = tt }, (λ n. cc n), refl)

pub written_whole : (start : Digest) (events : History) → IsDigest start → IsHistory events → IsJournalOf (journal_text start events) (Version2 start) events 0
written_whole start events digest is = record {
  tail = [];
  before = record { is_head = digest; history = is; whole = sym (append-nil (journal_text start events)) };
  is_torn = nothing_torn 2 (length (records_of events));
  torn_bytes = refl;
}

pub equal_histories : (start second : Digest) (one other : History) → IsDigest start → IsDigest second → IsHistory one → IsHistory other
    → journal_text start one ≡ journal_text second other → (start ≡ second) × (one ≡ other)
equal_histories start second one other d c p q e =
    let same = one_journal (journal_text second other) (Version2 start) (Version2 second) one other 0 0
    (subst (λ b. IsJournalOf b (Version2 start) one 0) e (written_whole start one d p)) (written_whole second other c q) in
    (cc (same.0), same.1)

-- the first bytes of some events: the first of these events, and a torn tail
cut_events : (v k : ℕ) (events : History) (front back : List ℕ) → AllMayFollow v k events → texts events ≡ front ++ back
    → (read later : History) × (tail : List ℕ) × (events ≡ read ++ later) × AllMayFollow v k read × (front ≡ texts read ++ tail)
    × IsTorn v (count_after k read) tail
cut_events v k [] [] back all e = ([], [], [], refl, tt, refl, nothing_torn v k)
cut_events v k [] (x ∷ front) back all e = cc e
cut_events v k (a ∷ events) front back all e = elim (cut_apart (event_text a) (texts events) front back e) [
  | inl r ↦ ([], a ∷ events, front, refl, tt, refl, (a, r.0, all.0, r.1, r.2))
  | inr r ↦
      let rest = cut_events v (records_with k a) events r.0 back all.1 r.2 in (
        a ∷ rest.0,
        rest.1,
        rest.2,
        ap (λ t. a ∷ t) rest.3,
        (all.0, rest.4),
        r.1 ∙ (ap (λ t. event_text a ++ t) rest.5 ∙ sym (append_assoc (event_text a) (texts rest.0) rest.2)),
        rest.6,
      )
]

pub cut_journal : (start : Digest) (events : History) (front back : List ℕ) → IsDigest start → IsHistory events → journal_text start events ≡ front ++ back
    → length (head start) ≤ length front → (read later : History) × (torn : ℕ) × (events ≡ read ++ later) × IsJournalOf front (Version2 start) read torn
cut_journal start events front back digest is e long = elim (cut_apart (head start) (texts events) front back e) [
  | inl r ↦ absurd (too_short r.0 r.1 (ap length r.2 ∙ length-append front r.0))
  | inr r ↦
      let cut = cut_events 2 0 events r.0 back is r.2 in (
        cut.0,
        cut.1,
        length cut.2,
        cut.3,
        record {
          tail = cut.2;
          before =
              record {
                is_head = digest;
                history = cut.4;
                whole = r.1
                    ∙ (ap (λ t. head start ++ t) cut.5 ∙ sym (append_assoc (head start) (texts cut.0) cut.2));
              };
          is_torn = subst (λ n. IsTorn 2 n cut.2) (count_from_none cut.0) cut.6;
          torn_bytes = refl;
        },
      )
]
  where
    too_short : (m : List ℕ) → m ≢ [] → length (head start) ≡ length front + length m → ⊥
    too_short [] some same = some refl
    too_short (x ∷ m) some same = omega (arith, same, long)

-- one event more
pub one_event_more : (v k : ℕ) (events : History) (e : Event) → AllMayFollow v k events → MayFollow v (count_after k events) e
    → AllMayFollow v k (events ++ e ∷ [])
one_event_more v k [] e all may = (may, tt)
one_event_more v k (a ∷ events) e all may = (all.0, one_event_more v (records_with k a) events e all.1 may)

texts_more : (events : History) (e : Event) → texts (events ++ e ∷ []) ≡ texts events ++ event_text e
texts_more [] e = append-nil (event_text e)
texts_more (a ∷ events) e = ap (λ t. event_text a ++ t) (texts_more events e) ∙ sym (append_assoc (event_text a) (texts events) (event_text e))

counts_more : (k : ℕ) (events : History) (e : Event) → count_after k (events ++ e ∷ []) ≡ records_with (count_after k events) e
counts_more k [] e = refl
counts_more k (a ∷ events) e = counts_more (records_with k a) events e

pub records_more : (events : History) (e : Event) → length (records_of (events ++ e ∷ [])) ≡ records_with (length (records_of events)) e
records_more events e =
    sym (count_from_none (events ++ e ∷ [])) ∙ (counts_more 0 events e ∙ ap (λ n. records_with n e) (count_from_none events))

-- no event's text is empty
pub some_text : (a : Event) → 0 < length (event_text a)
some_text (Recorded text Yes false) = omega arith
some_text (Recorded text No false) = omega arith
some_text (Recorded text Yes true) = omega arith
some_text (Recorded text No true) = omega arith
some_text (Committed number) = omega arith

-- the reader stands after the head
pub has_none : (bytes : List ℕ) (first : Head) (events : History) (rest : List ℕ) → events ≡ [] → IsHead first → bytes ≡ head_text first ++ rest
    → HasEvents bytes first events rest
has_none bytes first events rest none is begins =
    subst (λ (h : History). HasEvents bytes first h rest) (sym none) (record {
      is_head = is;
      history = tt;
      whole = begins ∙ ap (λ (t : List ℕ). t ++ rest) (sym (append-nil (head_text first)));
    })

-- the reader has come one event further
pub has_more : (bytes : List ℕ) (first : Head) (events : History) (tail : List ℕ) (records : ℕ) (e : Event) (later : List ℕ) → HasEvents bytes first events tail
    → records ≡ length (records_of events) → records < 2 ^ 64 → event_at (version_of first) records tail ≡ Ok (e, later)
    → HasEvents bytes first (events ++ e ∷ []) later × (tail ≡ event_text e ++ later) × (length later < length tail)
has_more bytes first events tail records e later has count fits found =
    let s = (event_decides (version_of first) records fits).sound tail (e, later) found in
    let may : MayFollow (version_of first) (count_after 0 events) e =
    subst (λ n. MayFollow (version_of first) n e) (count ∙ sym (count_from_none events)) s.0 in (
      record {
        is_head = has.is_head;
        history = one_event_more (version_of first) 0 events e has.history may;
        whole =
            has.whole ∙ (ap (λ t. text_under first events ++ t) s.1 ∙ (sym (append_assoc (text_under first events) (event_text e) later)
            ∙ ap (λ t. t ++ later) (append_assoc (head_text first) (texts events) (event_text e)
            ∙ ap (λ t. head_text first ++ t) (sym (texts_more events e)))));
      },
      s.1,
      omega (arith, ap length s.1, length-append (event_text e) later, some_text e),
    )

-- the reader has come to the end
pub is_journal : (bytes : List ℕ) (first : Head) (events : History) (tail : List ℕ) (records torn : ℕ) → HasEvents bytes first events tail
    → records ≡ length (records_of events) → records < 2 ^ 64 → event_at (version_of first) records tail ≡ Err Torn → torn ≡ length tail
    → IsJournalOf bytes first events torn
is_journal bytes first events tail records torn has count fits found is = record {
  tail = tail;
  before = has;
  is_torn = subst (λ n. IsTorn (version_of first) n tail) count ((event_decides (version_of first) records fits).torn tail found);
  torn_bytes = sym is;
}

-- the reader has come to what is no event
pub is_bad : (bytes : List ℕ) (first : Head) (events : History) (tail : List ℕ) (records offset : ℕ) → HasEvents bytes first events tail
    → records ≡ length (records_of events) → records < 2 ^ 64 → event_at (version_of first) records tail ≡ Err Bad → offset + length tail ≡ length bytes
    → IsBadAt bytes offset
is_bad bytes first events tail records offset has count fits found is =
    let d = event_decides (version_of first) records fits in
    record {
      first = first;
      events = events;
      tail = tail;
      before = has;
      at_offset = omega (arith, is, ap length has.whole, length-append (text_under first events) tail);
      no_event = subst (λ n. ¬ BeginsWithEvent (version_of first) n tail) count
          (λ b. let there = d.back b.0 b.1 b.2 in let no = sym found ∙ (ap (event_at (version_of first) records) b.3 ∙ there) in cc no);
      not_torn = subst (λ n. ¬ IsTorn (version_of first) n tail) count (λ b. let no = sym found ∙ d.cut tail b in cc no);
    }

-- an event adds one record at most
pub few_records : (records : ℕ) (e : Event) → records_with records e ≤ records + 1
few_records records (Recorded text verdict kept) = omega arith
few_records records (Committed number) = omega arith
