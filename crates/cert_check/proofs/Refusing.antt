-- What an event is that a reducer can have after a history, and where the first is that it can't.
use Rattle.std.proofs.Common.{◌≡◌, ◌++◌, ◌+◌, ◌<◌, ℕ, List, [], ◌∷◌, Bool, false, ◌||◌, Option, None, Some}
use Rattle.std.proofs.Common.{length, take, arith, refl, sym, ap, ◌∙◌, subst, append-nil, append_assoc}
use Rattle.std.specs.List.{AllByRecursion, IsDistinct, list_any}
use Rattle.std.specs.Str.{bytes_eq}
use Rattle.std.proofs.lemmas.Cmp.{nat_list_eq_equiv}
use Rattle.std.proofs.lemmas.List.{map-append, take-take}
use Rattle.std.proofs.lemmas.Map.Keys.{IsDistinct-head, IsDistinct-tail}
use Rattle.std.proofs.lemmas.Option.{same_Some}
use Rattle.script_gate_trait.specs.declared.gate.Verdict.{Verdict}
use Rattle.verdict_table.specs.declared.record.Record.{Record}
use Rattle.verdict_table.specs.declared.found.Found.TheVariants.{Absent}
use Rattle.verdict_table.specs.TableState.{TableState, found_in, texts_of}
use Rattle.verdict_table.proofs.Lent.{absent_where, not_among}
use Rattle.reduce_step.specs.Plan.{Plan, after, asked}
use Rattle.reduce_journal.specs.declared.event.Event.TheVariants.{Recorded, Committed}
use Rattle.reduce_journal.specs.History.{History, records_of}
use Rattle.ordered_commit.specs.Replay.{CommitsWhatIsAsked, IsLegal, answered, record_at, replay, replay_from}
use Rattle.ordered_commit.proofs.Lent.{records_more}
use Rattle.cert_check.specs.Findings.{IsFirstIllegal}
use Rattle.cert_check.specs.inner.Asked.{IsRecordOf}
use Rattle.cert_check.specs.inner.Replayed.{IsReplayed}
use Rattle.cert_check.proofs.Legal.{legal_take}
use Rattle.cert_check.proofs.Numbered.{not_of, one_number}

-- the last of distinct texts is none of those before it
last_apart : (texts : List (List ℕ)) (text : List ℕ) → IsDistinct bytes_eq (texts ++ text ∷ []) → list_any (bytes_eq text) texts ≡ false
last_apart [] text distinct = refl
last_apart (t ∷ texts) text distinct =
    let apart : bytes_eq t text ≡ false = at_last t texts text (IsDistinct-head bytes_eq t (texts ++ text ∷ []) distinct) in
    let flipped : bytes_eq text t ≡ false = nat_list_eq_equiv.symm text t ∙ apart in
    ap (λ (b : Bool). b || list_any (bytes_eq text) texts) flipped ∙ last_apart texts text (IsDistinct-tail bytes_eq t (texts ++ text ∷ []) distinct)
  where
    at_last : (t : List ℕ) (texts : List (List ℕ)) (text : List ℕ) → AllByRecursion (λ y. bytes_eq t y ≡ false) (texts ++ text ∷ []) → bytes_eq t text ≡ false
    at_last t [] text all = all.0
    at_last t (u ∷ texts) text all = at_last t texts text all.1

-- a text that is recorded next has no record
pub recorded_is_new : (first : Plan) (history : History) (text : List ℕ) (verdict : Verdict) (kept : Bool)
    → IsLegal first (history ++ Recorded text verdict kept ∷ [])
    → list_any (bytes_eq text) (texts_of (records_of history)) ≡ false
recorded_is_new first history text verdict kept legal =
    let r : Record = record { text = text; verdict = verdict } in
    let texts : texts_of (records_of (history ++ Recorded text verdict kept ∷ [])) ≡ texts_of (records_of history) ++ text ∷ [] =
    ap texts_of (records_more history text verdict kept) ∙ map-append (λ (q : Record). q.text) (records_of history) (r ∷ []) in
    last_apart (texts_of (records_of history)) text (subst (IsDistinct bytes_eq) texts legal.distinct)

-- a commit names a record of what is asked
commit_from : (es : List Record) (p : Plan) (h : History) (n : ℕ) → CommitsWhatIsAsked es p (h ++ Committed n ∷ []) → (r : Record)
    × (record_at n (es ++ records_of h) ≡ Some r) × (asked (replay_from es p h) ≡ Some r.text)
commit_from es p [] n c = (c.0, ap (record_at n) (append-nil es) ∙ c.1, c.2)
commit_from es p (Recorded t v k ∷ h) n c =
    let q : Record = record { text = t; verdict = v } in
    moved es q h p n (commit_from (es ++ q ∷ []) p h n c)
  where
    moved : (es : List Record) (q : Record) (h : History) (p : Plan) (n : ℕ) → (r : Record) × (record_at n ((es ++ q ∷ []) ++ records_of h) ≡ Some r)
        × (asked (replay_from (es ++ q ∷ []) p h) ≡ Some r.text)
        → (r : Record) × (record_at n (es ++ (q ∷ records_of h)) ≡ Some r) × (asked (replay_from (es ++ q ∷ []) p h) ≡ Some r.text)
    moved es q h p n (r, at, is) = (r, ap (record_at n) (sym (append_assoc es (q ∷ []) (records_of h))) ∙ at, is)
commit_from es p (Committed m ∷ h) n c = answered_so es p h n m c.0 c.1 (commit_from es (after p (c.0).verdict) h n c.3)
  where
    answered_so : (es : List Record) (p : Plan) (h : History) (n m : ℕ) (q : Record) → record_at m es ≡ Some q → (r : Record)
        × (record_at n (es ++ records_of h) ≡ Some r) × (asked (replay_from es (after p q.verdict) h) ≡ Some r.text)
        → (r : Record) × (record_at n (es ++ records_of h) ≡ Some r) × (asked (replay_from es (answered (record_at m es) p) h) ≡ Some r.text)
    answered_so es p h n m q at (r, there, is) = (r, there, ap (λ (o : Option Record). asked (replay_from es (answered o p) h)) at ∙ is)

pub committed_is_asked : (first : Plan) (history : History) (number : ℕ) → IsLegal first (history ++ Committed number ∷ []) → (r : Record)
    × (record_at number (records_of history) ≡ Some r) × (asked (replay first history) ≡ Some r.text)
committed_is_asked first history number legal = commit_from [] first history number legal.commits

module _ (first : Plan) (history : History) (plan : Plan) (table : TableState) (marks : List Bool) (it : IsReplayed first history plan table marks) where
  -- a text that has a record can't be recorded
  pub recorded_again : (text : List ℕ) (verdict : Verdict) (kept : Bool) → ¬ (found_in table text ≡ Absent)
      → ¬ IsLegal first (history ++ Recorded text verdict kept ∷ [])
  recorded_again text verdict kept there legal =
      let none : list_any (bytes_eq text) (texts_of table.records) ≡ false =
      ap (λ (rs : List Record). list_any (bytes_eq text) (texts_of rs)) it.records ∙ recorded_is_new first history text verdict kept legal in
      there (absent_where table text it.closed none)

  -- the record that a commit has to name
  named : (number : ℕ) → IsLegal first (history ++ Committed number ∷ []) → (r : Record) × (record_at number table.records ≡ Some r)
      × (asked plan ≡ Some r.text)
  named number legal = by (committed_is_asked first history number legal)
    where
      by : (r : Record) × (record_at number (records_of history) ≡ Some r) × (asked (replay first history) ≡ Some r.text) → (r : Record)
          × (record_at number table.records ≡ Some r) × (asked plan ≡ Some r.text)
      by (r, at, is) = (r, ap (record_at number) it.records ∙ at, ap asked it.plan_is ∙ is)

  -- where what is asked has no record, none can be committed
  pub nothing_asked : (number : ℕ) → IsRecordOf (asked plan) table.records None → ¬ IsLegal first (history ++ Committed number ∷ [])
  nothing_asked number none legal =
      let it_is = named number legal in
      not_of (it_is.0).text table.records number it_is.0 (not_among table.records (it_is.0).text (none (it_is.0).text it_is.2)) it_is.1 refl

  -- and where it has one, no other can be
  pub other_number : (number found : ℕ) (verdict : Verdict) → IsRecordOf (asked plan) table.records (Some (found, verdict)) → (found ≡ number → ⊥)
      → ¬ IsLegal first (history ++ Committed number ∷ [])
  other_number number found verdict is other legal =
      let it_is = named number legal in
      let same : is.0 ≡ (it_is.0).text = same_Some is.0 (it_is.0).text (sym is.1 ∙ it_is.2) in
      let distinct : IsDistinct bytes_eq (texts_of table.records) =
      subst (λ (rs : List Record). IsDistinct bytes_eq (texts_of rs)) (sym it.records) (it.legal).distinct in
      other (one_number table.records found number (record { text = is.0; verdict = verdict }) it_is.0 distinct is.2 it_is.1 same)

-- The event after a beginning that a reducer can have is the first that it can't have, where it can't have both.
pub first_illegal : (first : Plan) (history : History) (index : ℕ) → index < length history → IsLegal first (take index history)
    → ¬ IsLegal first (take (index + 1) history) → IsFirstIllegal first history (index + 1)
first_illegal first history index within legal illegal = record {
  there = omega (arith, within);
  illegal = illegal;
  shortest =
      λ shorter less. subst (IsLegal first) (take-take shorter index history (omega (arith, less))) (legal_take first (take index history) shorter legal);
}
