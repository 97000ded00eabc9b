-- What has been replayed, with one event more.
use Rattle.std.proofs.Common.{◌≡◌, ◌++◌, ◌+◌, ◌<◌, ◌⊎◌, inl, inr, ℕ, zero, suc, List, [], ◌∷◌, Bool, true, false, Option}
use Rattle.std.proofs.Common.{Some, length, set, length-append, arith, sym, ap, ◌∙◌, subst}
use Rattle.std.specs.List.{IsDistinct, list_any}
use Rattle.std.specs.Prelude.{slice_get}
use Rattle.std.specs.Str.{bytes_eq}
use Rattle.std.proofs.lemmas.Cmp.{nat_list_eq_equiv}
use Rattle.std.proofs.lemmas.Bool.{cases_eq}
use Rattle.std.proofs.lemmas.List.{get_or-set_other, length-set, map-append}
use Rattle.std.proofs.lemmas.Option.{get_or_from_slice_get, none-some, same_Some, slice_get-get_or, slice_get_within}
use Rattle.std.proofs.lemmas.Map.Keys.{IsDistinct-push}
use Rattle.script_gate_trait.specs.declared.gate.Verdict.{Verdict}
use Rattle.verdict_table.specs.declared.record.Record.{Record}
use Rattle.verdict_table.specs.TableState.{TableState, texts_of}
use Rattle.reduce_step.specs.Plan.{MayAsk, Plan, after, asked}
use Rattle.reduce_step.proofs.Lent.{after_may, asked_may}
use Rattle.reduce_journal.specs.declared.event.Event.TheVariants.{Recorded, Committed}
use Rattle.reduce_journal.specs.History.{History, records_of}
use Rattle.ordered_commit.specs.Replay.{answered, record_at, replay}
use Rattle.ordered_commit.proofs.Lent.{commits_commit, commits_record, records_more, records_same, replay_commit, replay_record}
use Rattle.cert_check.specs.inner.Asked.{MarkedMayBeAsked}
use Rattle.cert_check.specs.inner.Replayed.{IsReplayed}

-- a mark that is set before one more that isn't
marked_before : (marks : List Bool) (index : ℕ) → slice_get (marks ++ false ∷ []) index ≡ Some true → slice_get marks index ≡ Some true
marked_before [] zero is = absurd (cc is)
marked_before [] (suc index) is = absurd (cc is)
marked_before (m ∷ marks) zero is = is
marked_before (m ∷ marks) (suc index) is = marked_before marks index is

-- a record with a mark is among those before one more
record_before : (marks : List Bool) (rs : List Record) (q r : Record) (index : ℕ) → length marks ≡ length rs → slice_get marks index ≡ Some true
    → record_at (suc index) (rs ++ q ∷ []) ≡ Some r → record_at (suc index) rs ≡ Some r
record_before [] rs q r index same is at = absurd (cc is)
record_before (m ∷ marks) [] q r index same is at = absurd (cc same)
record_before (m ∷ marks) (s ∷ rs) q r zero same is at = at
record_before (m ∷ marks) (s ∷ rs) q r (suc index) same is at = record_before marks rs q r index (cc same) is at

-- the marks that are set where one more has been set
set_true : (marks : List Bool) (index i : ℕ) → slice_get (set marks index true) i ≡ Some true → (i ≡ index) ⊎ (slice_get marks i ≡ Some true)
set_true marks index i is = by (cases_eq i index)
  where
    within : i < length marks
    within = omega (arith, slice_get_within (set marks index true) i true is, length-set marks index true)

    by : (i ≡ index) ⊎ (i ≡ index → ⊥) → (i ≡ index) ⊎ (slice_get marks i ≡ Some true)
    by (inl same) = inl same
    by (inr other) =
        inr (slice_get-get_or marks i false within
        ∙ ap (λ (b : Bool). Some b) (sym (get_or-set_other marks index i true false other) ∙ get_or_from_slice_get (set marks index true) i true false is))

pub marked_so : (marks marks' : List Bool) (index number : ℕ) → suc index ≡ number → marks' ≡ set marks index true → (i : ℕ) → slice_get marks' i ≡ Some true
    → (suc i ≡ number) ⊎ (slice_get marks i ≡ Some true)
marked_so marks marks' index number next is i at = lift (set_true marks index i (ap (λ (ms : List Bool). slice_get ms i) (sym is) ∙ at))
  where
    lift : (i ≡ index) ⊎ (slice_get marks i ≡ Some true) → (suc i ≡ number) ⊎ (slice_get marks i ≡ Some true)
    lift (inl same) = inl (ap (λ (n : ℕ). suc n) same ∙ next)
    lift (inr before) = inr before

-- a record of what is asked is marked, and answers: every mark that is set is that of this record or was set before
pub marked_more : (first plan : Plan) (records : List Record) (marks : List Bool) (number : ℕ) (r : Record) (plan' : Plan) (marks' : List Bool)
    → record_at number records ≡ Some r → asked plan ≡ Some r.text → plan' ≡ after plan r.verdict
    → ((index : ℕ) → slice_get marks' index ≡ Some true → (suc index ≡ number) ⊎ (slice_get marks index ≡ Some true))
    → MarkedMayBeAsked first plan records marks → MarkedMayBeAsked first plan' records marks'
marked_more first plan records marks number r plan' marks' at asks goes_on marked it =
    record {
      still_may = λ text may. it.still_may text (after_may plan r.verdict r.text text asks (subst (λ (p : Plan). MayAsk p text) goes_on may));
      marked = λ index q set found. by index q found (marked index set);
    }
  where
    by : (index : ℕ) (q : Record) → record_at (suc index) records ≡ Some q → (suc index ≡ number) ⊎ (slice_get marks index ≡ Some true)
        → MayAsk first q.text
    by index q found (inl now) =
        let same_record : r ≡ q = same_Some r q (sym at ∙ ap (λ (n : ℕ). record_at n records) (sym now) ∙ found) in
        subst (λ (s : Record). MayAsk first s.text) same_record (it.still_may r.text (asked_may plan r.text asks))
    by index q found (inr before) = it.marked index q before found

module _ (first : Plan) (history : History) (plan : Plan) (table : TableState) (marks : List Bool) (it : IsReplayed first history plan table marks) where
  -- a record of a text that has none yet
  pub recorded : (text : List ℕ) (verdict : Verdict) (kept : Bool) (table' : TableState) (marks' : List Bool)
      → table'.records ≡ table.records ++ record { text = text; verdict = verdict } ∷ [] → table'.claims ≡ [] → marks' ≡ marks ++ false ∷ []
      → list_any (bytes_eq text) (texts_of table.records) ≡ false → IsReplayed first (history ++ Recorded text verdict kept ∷ []) plan table' marks'
  recorded text verdict kept table' marks' records closed marked absent =
      let r : Record = record { text = text; verdict = verdict } in
      let more : records_of (history ++ Recorded text verdict kept ∷ []) ≡ records_of history ++ r ∷ [] = records_more history text verdict kept in
      let texts : texts_of (records_of (history ++ Recorded text verdict kept ∷ [])) ≡ texts_of (records_of history) ++ text ∷ [] =
      ap texts_of more ∙ map-append (λ (q : Record). q.text) (records_of history) (r ∷ []) in
      let none : list_any (bytes_eq text) (texts_of (records_of history)) ≡ false =
      ap (λ (rs : List Record). list_any (bytes_eq text) (texts_of rs)) (sym it.records) ∙ absent in
      record {
        legal = record {
          distinct = subst (IsDistinct bytes_eq) (sym texts) (IsDistinct-push nat_list_eq_equiv (texts_of (records_of history)) text (it.legal).distinct none);
          commits = commits_record [] first history text verdict kept (it.legal).commits;
        };
        plan_is = it.plan_is ∙ sym (replay_record [] first history text verdict kept);
        records = records ∙ ap (λ (rs : List Record). rs ++ r ∷ []) it.records ∙ sym more;
        closed = closed;
        one_each =
            ap (λ (ms : List Bool). length ms) marked ∙ length-append marks (false ∷ []) ∙ ap (λ (n : ℕ). n + 1) it.one_each
            ∙ sym (length-append table.records (r ∷ [])) ∙ sym (ap (λ (rs : List Record). length rs) records);
        marked = record {
          still_may = (it.marked).still_may;
          marked = λ index q is at.
              let before = marked_before marks index (ap (λ (ms : List Bool). slice_get ms index) (sym marked) ∙ is) in
              let there = record_before marks table.records r q index it.one_each before (ap (record_at (suc index)) (sym records) ∙ at) in
              (it.marked).marked index q before there;
        };
      }

  -- a commit of the record of what is asked, which is marked then
  pub committed : (number : ℕ) (r : Record) (plan' : Plan) (marks' : List Bool) → record_at number table.records ≡ Some r → asked plan ≡ Some r.text
      → plan' ≡ after plan r.verdict → length marks' ≡ length marks
      → ((index : ℕ) → slice_get marks' index ≡ Some true → (suc index ≡ number) ⊎ (slice_get marks index ≡ Some true))
      → IsReplayed first (history ++ Committed number ∷ []) plan' table marks'
  committed number r plan' marks' at is goes_on as_many marked =
      let same : records_of (history ++ Committed number ∷ []) ≡ records_of history = records_same history number in
      let at_history : record_at number (records_of history) ≡ Some r = ap (record_at number) (sym it.records) ∙ at in
      let asks : asked (replay first history) ≡ Some r.text = ap asked (sym it.plan_is) ∙ is in
      record {
        legal = record {
          distinct = subst (λ (rs : List Record). IsDistinct bytes_eq (texts_of rs)) (sym same) (it.legal).distinct;
          commits = commits_commit [] first history number r (it.legal).commits at_history asks;
        };
        plan_is =
            goes_on ∙ ap (λ (p : Plan). after p r.verdict) it.plan_is ∙ ap (λ (o : Option Record). answered o (replay first history)) (sym at_history)
            ∙ sym (replay_commit [] first history number);
        records = it.records ∙ sym same;
        closed = it.closed;
        one_each = as_many ∙ it.one_each;
        marked = marked_more first plan table.records marks number r plan' marks' at is goes_on marked it.marked;
      }

-- nothing has been replayed of a new reducer
pub nothing_replayed : (first plan : Plan) (table : TableState) (marks : List Bool) → plan ≡ first → table ≡ record { claims = []; records = []; filled = [] }
    → marks ≡ [] → IsReplayed first [] plan table marks
unfolding IsDistinct
nothing_replayed first plan table marks new empty none = record {
  legal = record { distinct = tt; commits = tt };
  plan_is = new;
  records = ap (λ (t : TableState). t.records) empty;
  closed = ap (λ (t : TableState). t.claims) empty;
  one_each = ap (λ (ms : List Bool). length ms) none ∙ sym (ap (λ (t : TableState). length t.records) empty);
  marked = record {
    still_may = λ text may. subst (λ (p : Plan). MayAsk p text) new may;
    marked = λ index r set at. absurd (none-some r (ap (λ (t : TableState). record_at (suc index) t.records) (sym empty) ∙ at));
  };
}
