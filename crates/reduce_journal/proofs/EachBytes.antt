-- Each list of bytes lacks a whole head, is a journal, or is bad at some offset.
use Rattle.std.proofs.Common.{◌≡◌, ◌⊎◌, inl, inr, ℕ, zero, suc, ◌+◌, ◌^◌, ◌<◌, List, [], ◌∷◌, ◌++◌, Ok, Err, length}
use Rattle.std.proofs.Common.{refl, sym, ap, ◌∙◌, subst, arith, append_assoc, length-append}
use Rattle.reduce_journal.specs.declared.event.Event.{Event}
use Rattle.reduce_journal.specs.declared.numbers.Mismatch.TheVariants.{Torn, Bad}
use Rattle.reduce_journal.specs.History.{History, records_with, AllMayFollow}
use Rattle.reduce_journal.specs.Journal.{head_text, text_under, version_of, event_text, IsHead, LacksHead, BeginsWithEvent, IsTorn, IsJournalOf, IsBadAt}
use Rattle.reduce_journal.specs.inner.Reading.{Parse, event_at}
use Rattle.reduce_journal.specs.declared.head.Head.{Head}
use Rattle.reduce_journal.proofs.Events.{event_decides}
use Rattle.reduce_journal.proofs.Heads.{each_head}
use Rattle.reduce_journal.proofs.Journals.{count_after, count_from_none, few_records, some_text, texts}

-- these bytes after so many records: events, and a tail that is torn or bad
record Parts (version records : ℕ) (bytes : List ℕ) : Type 0 where
  events : History
  tail : List ℕ
  follow : AllMayFollow version records events
  whole : bytes ≡ texts events ++ tail
  ends : IsTorn version (count_after records events) tail
      ⊎ ((¬ BeginsWithEvent version (count_after records events) tail) × (¬ IsTorn version (count_after records events) tail))

one_step : (v k : ℕ) (bytes : List ℕ) → k < 2 ^ 64 → ((e : Event) (later : List ℕ) → length later < length bytes → Parts v (records_with k e) later)
    → (r : Parse Event) → event_at v k bytes ≡ r → Parts v k bytes
one_step v k bytes fits later (Ok found) e =
    let s = (event_decides v k fits).sound bytes found e in
    let rest = later found.0 found.1 (omega (arith, ap length s.1, length-append (event_text found.0) found.1, some_text found.0)) in
    record {
      events = found.0 ∷ rest.events;
      tail = rest.tail;
      follow = (s.0, rest.follow);
      whole = s.1 ∙ (ap (λ t. event_text found.0 ++ t) rest.whole ∙ sym (append_assoc (event_text found.0) (texts rest.events) rest.tail));
      ends = rest.ends;
    }
one_step v k bytes fits later (Err Torn) e = record {
  events = [];
  tail = bytes;
  follow = tt;
  whole = refl;
  ends = inl ((event_decides v k fits).torn bytes e);
}
one_step v k bytes fits later (Err Bad) e =
    let d = event_decides v k fits in
    record {
      events = [];
      tail = bytes;
      follow = tt;
      whole = refl;
      ends = inr ((λ b. let there = sym e ∙ (ap (event_at v k) b.3 ∙ d.back b.0 b.1 b.2) in cc there), (λ b. let there = sym e ∙ d.cut bytes b in cc there));
    }

parts : (fuel v k : ℕ) (bytes : List ℕ) → length bytes < fuel → k + length bytes < 2 ^ 64 → Parts v k bytes
parts zero v k bytes less fits = absurd (omega arith)
parts (suc fuel) v k bytes less fits =
    one_step v k bytes (omega (arith, fits))
    (λ e later shorter. let few = few_records k e in parts fuel v (records_with k e) later (omega (arith, less, shorter)) (omega (arith, fits, shorter, few)))
    (event_at v k bytes) refl

after_head : (bytes rest : List ℕ) (first : Head) → IsHead first → bytes ≡ head_text first ++ rest → Parts (version_of first) 0 rest
    → ((first : Head) × (events : History) × (torn : ℕ) × IsJournalOf bytes first events torn) ⊎ ((offset : ℕ) × IsBadAt bytes offset)
after_head bytes rest first is_head begins p =
    let whole : bytes ≡ text_under first p.events ++ p.tail =
    begins ∙ (ap (λ t. head_text first ++ t) p.whole ∙ sym (append_assoc (head_text first) (texts p.events) p.tail)) in
    elim p.ends [
      | inl torn ↦ inl (
        first,
        p.events,
        length p.tail,
        record {
          tail = p.tail;
          before = record { is_head = is_head; history = p.follow; whole = whole };
          is_torn = subst (λ n. IsTorn (version_of first) n p.tail) (count_from_none p.events) torn;
          torn_bytes = refl;
        },
      )
      | inr bad ↦ inr (
        length (text_under first p.events),
        record {
          first = first;
          events = p.events;
          tail = p.tail;
          before = record { is_head = is_head; history = p.follow; whole = whole };
          at_offset = refl;
          no_event = subst (λ n. ¬ BeginsWithEvent (version_of first) n p.tail) (count_from_none p.events) bad.0;
          not_torn = subst (λ n. ¬ IsTorn (version_of first) n p.tail) (count_from_none p.events) bad.1;
        },
      )
    ]

pub each_bytes : (bytes : List ℕ) → length bytes < 2 ^ 64 → LacksHead bytes
    ⊎ (((first : Head) × (events : History) × (torn : ℕ) × IsJournalOf bytes first events torn) ⊎ ((offset : ℕ) × IsBadAt bytes offset))
each_bytes bytes fits = elim (each_head bytes) [
  | inl found ↦
      let rest : List ℕ = found.1 in
      inr (after_head bytes rest found.0 found.2 found.3
      (parts (suc (length rest)) (version_of found.0) 0 rest (omega arith) (omega (arith, fits, ap length found.3, length-append (head_text found.0) rest))))
  | inr lacks ↦ inl lacks
]
