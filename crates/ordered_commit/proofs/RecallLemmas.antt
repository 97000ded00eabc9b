-- A recall: when one can be made, and what holds of the board after it.
use Rattle.std.proofs.Common.{◌≡◌, ◌++◌, ◌+◌, ◌*◌, ◌-◌, ◌≤◌, ◌||◌, ℕ, List, [], ◌∷◌, All, Contains, Bool, true, false, cond, not, Option, Some, None, Err}
use Rattle.std.proofs.Common.{Bor, IfSome, length, nat_eq, option_copied, option_map, take, append-nil, append_assoc, arith, refl, sym, ap, ◌∙◌, subst}
use Rattle.std.proofs.lemmas.Bool.{or_parts}
use Rattle.std.proofs.lemmas.Cmp.{nat_eq_equiv}
use Rattle.std.proofs.lemmas.List.{length-append, map-append}
use Rattle.std.proofs.lemmas.List.Elements.{All-contains_itself, All-head, All-push, All-tail}
use Rattle.std.proofs.lemmas.List.Sorted.{All-permutation, IsPermutation-append_right, IsPermutation-middle}
use Rattle.std.proofs.lemmas.Slice.Eq.{bytes_eq-Decides}
use Rattle.std.specs.List.{AllByRecursion, IsDistinct, list_any}
use Rattle.std.specs.List.Sorted.{IsPermutation}
use Rattle.std.specs.Str.{bytes_eq}
use Rattle.faults.specs.Count.{Rose}
use Rattle.faults.specs.Memory.{ran_out}
use Rattle.script_gate_trait.specs.declared.gate.Verdict.{Verdict}
use Rattle.script_gate_trait.specs.declared.gate.Verdict.TheVariants.{No}
use Rattle.edge_io.specs.Sink.{Put}
use Rattle.reduce_step.specs.Limits.{text_limit}
use Rattle.reduce_step.specs.Plan.{MayAsk, Plan, after, asked}
use Rattle.reduce_step.specs.Ahead.{ahead, asked_at_no}
use Rattle.reduce_step.proofs.Lent.{ahead_may}
use Rattle.verdict_table.specs.declared.found.Found.TheVariants.{Absent}
use Rattle.verdict_table.specs.declared.record.Record.{Record}
use Rattle.verdict_table.specs.declared.table.Claim.{Claim}
use Rattle.verdict_table.specs.Kept.{record_in}
use Rattle.verdict_table.specs.TableState.{IsSound, TableState, all_numbers, all_texts, claim_count, claimed_texts, found_in, other_claims}
use Rattle.verdict_table.specs.TableState.{text_claimed, texts_of, verdict_in}
use Rattle.verdict_table.proofs.Lent.{distinct_front, sound_claimed, sound_filled}
use Rattle.reduce_journal.specs.History.{History, IsHistory, records_of}
use Rattle.reduce_journal.specs.Journal.{journal_text}
use Rattle.reduce_journal.proofs.Lent.{one_event_more}
use Rattle.ordered_commit.specs.Replay.{IsLegal}
use Rattle.ordered_commit.specs.Moves.{is_recorded, kept_of, kept_record, recalled_as}
use Rattle.ordered_commit.proofs.Runs.{asked_recalled, commits_record, go_with_more, kept_found, not_true, records_more, replay_record}
use Rattle.ordered_commit.specs.declared.fault.BoardFault.{BoardFault}
use Rattle.ordered_commit.specs.declared.fault.BoardFault.TheVariants.{Journal as NotWritten, Memory as OutOfMemory}
use Rattle.ordered_commit.specs.declared.fault.PoolFault.{PoolFault}
use Rattle.ordered_commit.specs.declared.fault.PoolFault.TheVariants.{Journal, Memory}
use Rattle.ordered_commit.specs.BoardState.{BoardState, CanRecall, core_of, held_claims}
use Rattle.ordered_commit.specs.Faults.{board_fault}
use Rattle.ordered_commit.specs.inner.Claiming.{is_absent}
use Rattle.ordered_commit.specs.inner.RecallEnds.{RecordsKept, recall_of}
use Rattle.ordered_commit.specs.Kept.{BeginsWithin, BrokeWhereDue, IsJournal, IsKept, IsSoundHistory}
use Rattle.ordered_commit.specs.RecallEnds.{IsRecalled, IsUnrecalled, RecallEnds, kept_event, with_kept_record}
use Rattle.ordered_commit.specs.Writes.{IsPartlyWritten, IsWritten}
use Rattle.ordered_commit.proofs.ClaimLemmas.{fresh_number, others_numbered}
use Rattle.ordered_commit.proofs.CommitLemmas.{kept_out_of_memory, kept_stopped}
use Rattle.ordered_commit.proofs.JournalLemmas.{HasBytes, broke_due, broke_off, has_more, has_whole}
use Rattle.ordered_commit.proofs.TableFacts.{absent_found, absent_is}
use Rattle.ordered_commit.proofs.TakeLemmas.{may_at_first, nothing_committed}
use Rattle.ordered_commit.proofs.WaitLemmas.{first_ahead}

-- ---- a claim that is filled or withdrawn at once

abbrev with_claim_of : ℕ → List ℕ → TableState → TableState
with_claim_of n text table = record table { claims = table.claims ++ record { number = n; text = text } ∷ [] }

-- no other claim has its number
others_of_new : (n : ℕ) (text : List ℕ) (claims : List Claim) → AllByRecursion (λ (c : Claim). nat_eq n c.number ≡ false) claims
    → other_claims n (claims ++ record { number = n; text = text } ∷ []) ≡ claims
others_of_new n text [] apart = ap (λ (b : Bool). cond (not b) (record { number = n; text = text } ∷ []) []) (nat_eq_equiv.refl n)
others_of_new n text (c ∷ claims) apart =
    rw (nat_eq_equiv.symm c.number n ∙ apart.0) (ap (λ (cs : List Claim). c ∷ cs) (others_of_new n text claims apart.1))

module _ (old claimed : TableState) (n : ℕ) (text : List ℕ) (is : claimed ≡ with_claim_of n text old) (fresh : Contains (all_numbers old) n → ⊥)
    (number : n ≡ claim_count old) where
  others_closed : other_claims n claimed.claims ≡ old.claims
  others_closed =
      ap (λ (t : TableState). other_claims n t.claims) is
      ∙ others_of_new n text old.claims (others_numbered n old.claims (fresh_number n old fresh))

  pub claimed_sound : IsSound old → found_in old text ≡ Absent → IsSound claimed
  claimed_sound sound absent =
      subst (λ (t : TableState). IsSound t) (sym (is ∙ ap (λ (k : ℕ). with_claim_of k text old) number)) (sound_claimed old text sound absent)

  pub claimed_last : n + 1 ≡ claim_count claimed
  claimed_last =
      let c : Claim = record { number = n; text = text } in
      let count : length (old.claims ++ c ∷ []) + length old.records ≡ claim_count old + 1 = simp length-append (omega arith) in
      ap (λ (k : ℕ). k + 1) number ∙ sym count ∙ ap claim_count (sym is)

  pub withdrawn : (new : TableState) → new ≡ record claimed { claims = other_claims n claimed.claims } → new ≡ old
  withdrawn new ends =
      let records : new.records ≡ old.records = ap (λ (t : TableState). t.records) ends ∙ ap (λ (t : TableState). t.records) is in
      let filled : new.filled ≡ old.filled = ap (λ (t : TableState). t.filled) ends ∙ ap (λ (t : TableState). t.filled) is in
      let claims : new.claims ≡ old.claims = ap (λ (t : TableState). t.claims) ends ∙ others_closed in
      λ i. record { claims = claims i; records = records i; filled = filled i }

  pub filled_kept : (new : TableState) (verdict : Verdict) → text_claimed n claimed.claims ≡ Some text
      → IfSome (text_claimed n claimed.claims) (λ t. new.records ≡ claimed.records ++ record { text = t; verdict = verdict } ∷ [])
      → new.claims ≡ other_claims n claimed.claims → new.filled ≡ claimed.filled ++ n ∷ []
      → new ≡ with_kept_record (record { text = text; verdict = verdict }) old
  filled_kept new verdict opened recorded closed numbered =
      let r : Record = record { text = text; verdict = verdict } in
      let records : new.records ≡ old.records ++ r ∷ [] =
      subst (λ (o : Option (List ℕ)). IfSome o (λ t. new.records ≡ claimed.records ++ record { text = t; verdict = verdict } ∷ [])) opened recorded
      ∙ ap (λ (t : TableState). t.records ++ r ∷ []) is in
      let claims : new.claims ≡ old.claims = closed ∙ others_closed in
      let filled : new.filled ≡ old.filled ++ claim_count old ∷ [] = numbered ∙ (λ i. (is i).filled ++ number i ∷ []) in
      λ i. record { claims = claims i; records = records i; filled = filled i }

-- the texts of a table with one record more
all_between : (P : List ℕ → Type 0) (xs ys : List (List ℕ)) (x : List ℕ) → All P (xs ++ ys) → P x → All P ((xs ++ x ∷ []) ++ ys)
all_between P xs ys x all holds =
    let last_first : IsPermutation (ys ++ x ∷ []) (x ∷ ys) =
    subst (λ (zs : List (List ℕ)). IsPermutation (ys ++ x ∷ []) (x ∷ zs)) (append-nil ys) (IsPermutation-middle ys x []) in
    let moved : IsPermutation ((xs ++ ys) ++ x ∷ []) ((xs ++ x ∷ []) ++ ys) =
    subst (λ (zs : List (List ℕ)). IsPermutation zs ((xs ++ x ∷ []) ++ ys)) (sym (append_assoc xs ys (x ∷ [])))
    (subst (λ (zs : List (List ℕ)). IsPermutation (xs ++ (ys ++ x ∷ [])) zs) (sym (append_assoc xs (x ∷ []) ys))
    (IsPermutation-append_right xs (ys ++ x ∷ []) (x ∷ ys) last_first)) in
    All-permutation P ((xs ++ ys) ++ x ∷ []) ((xs ++ x ∷ []) ++ ys) moved (All-push P (xs ++ ys) x all holds)

begins_recalled : (texts : List (List ℕ)) (records : List Record) (claims : List Claim) (r : Record) → BeginsWithin texts records claims
    → (records ≡ [] → Contains texts r.text) → BeginsWithin texts (records ++ r ∷ []) claims
begins_recalled texts [] claims r begins is_ahead = is_ahead refl
begins_recalled texts (q ∷ records) claims r begins is_ahead = begins

-- ---- what can be recalled

-- the text that is asked has a kept verdict, and the table doesn't hold it
recall_parts : (table : TableState) (o : Option Record) (r : Record) → recall_of table o ≡ Some r → (o ≡ Some r) × (is_absent table r.text ≡ true)
recall_parts table None r is = absurd (cc is)
recall_parts table (Some q) r is = at (is_absent table q.text) refl is
  where
    at : (b : Bool) → b ≡ is_absent table q.text → cond b (Some q) None ≡ Some r → (Some q ≡ Some r) × (is_absent table r.text ≡ true)
    at true e is = let same : q ≡ r = cc is in (is, ap (λ (s : Record). is_absent table s.text) (sym same) ∙ sym e)
    at false e is = absurd (cc is)

recall_none : (table : TableState) (q : Record) (b : Bool) → b ≡ is_absent table q.text → cond b (Some q) None ≡ None → is_absent table q.text ≡ false
recall_none table q true e is = absurd (cc is)
recall_none table q false e is = sym e

-- how the code looks for it
module _ (table : TableState) (kept : List Record) (asks : Option (List ℕ)) (text : List ℕ) (is : asks ≡ Some text) where
  at_verdict : (o : Option Verdict) → is_absent table text ≡ true → option_map (kept_record text) o ≡ recall_of table (option_map (kept_record text) o)
  at_verdict None absent = refl
  at_verdict (Some v) absent = ap (λ (b : Bool). cond b (Some (kept_record text v)) None) (sym absent)

  pub recall_absent : (found : Option Record) → is_absent table text ≡ true → found ≡ record_in kept text
      → found ≡ recall_of table (kept_of (verdict_in kept) asks)
  recall_absent found absent looked =
      looked ∙ at_verdict (verdict_in kept text) absent ∙ ap (λ (a : Option (List ℕ)). recall_of table (kept_of (verdict_in kept) a)) (sym is)

  not_at_verdict : (o : Option Verdict) → is_absent table text ≡ false → None ≡ recall_of table (option_map (kept_record text) o)
  not_at_verdict None held = refl
  not_at_verdict (Some v) held = ap (λ (b : Bool). cond b (Some (kept_record text v)) None) (sym held)

  pub recall_held : is_absent table text ≡ false → None ≡ recall_of table (kept_of (verdict_in kept) asks)
  recall_held held =
      not_at_verdict (verdict_in kept text) held ∙ ap (λ (a : Option (List ℕ)). recall_of table (kept_of (verdict_in kept) a)) (sym is)

  pub recall_short : (found : Option (Bor Record)) → option_copied found ≡ record_in kept text → length text ≤ text_limit
      → IfSome found (λ kept. length kept.now.text ≤ text_limit)
  recall_short None looked short = tt
  recall_short (Some lent) looked short = at (verdict_in kept text) looked
    where
      at : (o : Option Verdict) → Some lent.now ≡ option_map (kept_record text) o → length lent.now.text ≤ text_limit
      at None e = absurd (cc e)
      at (Some v) e = let same : lent.now ≡ kept_record text v = cc e in subst (λ (r : Record). length r.text ≤ text_limit) (sym same) short

-- nothing that is lent
pub none_lent : (o : Option (Bor Record)) → ((lent : Bor Record) → o ≡ Some lent → ⊥) → option_copied o ≡ None
none_lent None not = refl
none_lent (Some lent) not = absurd (not lent refl)

module _ {S J : Type 0} (plan first : S → Plan) (may_say : List ℕ → Verdict → Type 0) (put_so_far : J → Option Put) (faults : J → ℕ) (state : BoardState S J)
    (kept : IsKept plan first may_say put_so_far faults state) where
  -- no claim is of a text with a kept verdict
  unclaimed : (text : List ℕ) (verdict : Verdict) → verdict_in state.kept text ≡ Some verdict → (claims : List Claim)
      → All (λ (c : Claim). verdict_in state.kept c.text ≡ None) claims → list_any (bytes_eq text) (claimed_texts claims) ≡ false
  unclaimed text verdict is [] none = refl
  unclaimed text verdict is (c ∷ claims) none =
      at (bytes_eq text c.text) refl (All-head (λ (d : Claim). verdict_in state.kept d.text ≡ None) c claims none)
      (unclaimed text verdict is claims (All-tail (λ (d : Claim). verdict_in state.kept d.text ≡ None) c claims none))
    where
      at : (b : Bool) → b ≡ bytes_eq text c.text → verdict_in state.kept c.text ≡ None → list_any (bytes_eq text) (claimed_texts claims) ≡ false
          → (b || list_any (bytes_eq text) (claimed_texts claims)) ≡ false
      at true e unkept later =
          let same : text ≡ c.text = (bytes_eq-Decides text c.text).0 (sym e) in
          let no : ◌≡◌ {A = Option Verdict} (Some verdict) None = sym is ∙ ap (verdict_in state.kept) same ∙ unkept in absurd (cc no)
      at false e unkept later = later

  -- so the table doesn't hold a text with a kept verdict that has no record
  not_held : (text : List ℕ) (verdict : Verdict) → verdict_in state.kept text ≡ Some verdict → is_recorded (core_of plan state) text ≡ false
      → is_absent state.table text ≡ true
  not_held text verdict is unrecorded =
      let records : list_any (bytes_eq text) (texts_of state.table.records) ≡ false =
      ap (λ (rs : List Record). list_any (bytes_eq text) (texts_of rs)) kept.recorded.recorded ∙ unrecorded in
      let claims : list_any (bytes_eq text) (claimed_texts state.table.claims) ≡ false = unclaimed text verdict is state.table.claims kept.recorded.not_kept in
      absent_is state.table text kept.recorded.sound ∙ (λ i. not (records i || claims i))

  -- where the code finds nothing, nothing can be recalled
  pub not_recalled : recall_of state.table (kept_of (verdict_in state.kept) (asked (plan state.front))) ≡ None → ¬ (CanRecall plan state)
  not_recalled none can =
      let r : Record = can.1.0 in
      let parts = kept_found (verdict_in state.kept) (asked (plan state.front)) r can.1.1 in
      let absent : is_absent state.table r.text ≡ true = not_held r.text r.verdict parts.1 can.1.2 in
      let held : is_absent state.table r.text ≡ false =
      recall_none state.table r (is_absent state.table r.text) refl (ap (recall_of state.table) (sym can.1.1) ∙ none) in
      cc (sym absent ∙ held)

-- ---- what holds after it

-- the board with the record of a kept verdict, and this journal
abbrev pub after_recall : {S J : Type 0} → Record → J → BoardState S J → BoardState S J
after_recall r journal state = record state { table = with_kept_record r state.table; history = state.history ++ kept_event r ∷ []; journal = journal }

module _ {S J : Type 0} (plan first : S → Plan) (may_say : List ℕ → Verdict → Type 0) (put_so_far : J → Option Put) (faults : J → ℕ) (state : BoardState S J)
    (kept : IsKept plan first may_say put_so_far faults state) (r : Record) (unstopped : state.fault ≡ None) (short : length r.text ≤ text_limit)
    (is : recall_of state.table (kept_of (verdict_in state.kept) (asked (plan state.front))) ≡ Some r) where
  pub absent : is_absent state.table r.text ≡ true
  absent = (recall_parts state.table (kept_of (verdict_in state.kept) (asked (plan state.front))) r is).1

  found : kept_of (verdict_in state.kept) (asked (plan state.front)) ≡ Some r
  found = (recall_parts state.table (kept_of (verdict_in state.kept) (asked (plan state.front))) r is).0

  asks : asked (plan state.front) ≡ Some r.text
  asks = (kept_found (verdict_in state.kept) (asked (plan state.front)) r found).0

  verdict : verdict_in state.kept r.text ≡ Some r.verdict
  verdict = (kept_found (verdict_in state.kept) (asked (plan state.front)) r found).1

  could : CanRecall plan state
  could =
      let recorded : Bool = list_any (bytes_eq r.text) (texts_of state.table.records) in
      let claimed : Bool = list_any (bytes_eq r.text) (claimed_texts state.table.claims) in
      let neither : (recorded || claimed) ≡ false = not_true (recorded || claimed) (sym (absent_is state.table r.text kept.recorded.sound) ∙ absent) in (
        unstopped,
        (
          r,
          found,
          ap (λ (rs : List Record). list_any (bytes_eq r.text) (texts_of rs)) (sym kept.recorded.recorded) ∙ (or_parts recorded claimed neither).0,
        ),
      )

  sound : IsSound (with_kept_record r state.table)
  sound =
      let c : Claim = record { number = claim_count state.table; text = r.text } in
      let moved : IsPermutation (state.table.claims ++ c ∷ []) (c ∷ state.table.claims) =
      subst (λ (cs : List Claim). IsPermutation (state.table.claims ++ c ∷ []) (c ∷ cs)) (append-nil state.table.claims)
      (IsPermutation-middle state.table.claims c []) in
      sound_filled (with_claim_of (claim_count state.table) r.text state.table) c state.table.claims r.verdict
      (sound_claimed state.table r.text kept.recorded.sound (absent_found state.table r.text absent)) moved

  records_after : (with_kept_record r state.table).records ≡ records_of (state.history ++ kept_event r ∷ [])
  records_after =
      ap (λ (rs : List Record). rs ++ r ∷ []) kept.recorded.recorded ∙ sym (records_more state.history r.text r.verdict true)

  legal : IsLegal (first state.front) (state.history ++ kept_event r ∷ [])
  legal = record {
    distinct = subst (λ (rs : List Record). IsDistinct bytes_eq (texts_of rs)) records_after
        (distinct_front bytes_eq (texts_of (with_kept_record r state.table).records) (claimed_texts state.table.claims) sound.once);
    commits = commits_record [] (first state.front) state.history r.text r.verdict true kept.recorded.legal.commits;
  }

  readable : IsHistory (state.history ++ kept_event r ∷ [])
  readable = one_event_more 2 0 state.history (kept_event r) kept.recorded.readable (record { of_version = refl; text = short; names = tt })

  texts_after : all_texts (with_kept_record r state.table) ≡ (texts_of state.table.records ++ r.text ∷ []) ++ claimed_texts state.table.claims
  texts_after =
      ap (λ (ts : List (List ℕ)). ts ++ claimed_texts state.table.claims) (map-append (λ (q : Record). q.text) state.table.records (r ∷ []))

  all_after : (P : List ℕ → Type 0) → All P (all_texts state.table) → P r.text → All P (all_texts (with_kept_record r state.table))
  all_after P all holds =
      subst (All P) (sym texts_after) (all_between P (texts_of state.table.records) (claimed_texts state.table.claims) r.text all holds)

  -- what is asked is the first of what is ahead
  is_first : Contains (ahead (2 * length state.seats) (plan state.front)) r.text
  is_first =
      let later : List (List ℕ) = take (2 * length state.seats - 1) (asked_at_no (after (plan state.front) No)) in
      subst (λ (texts : List (List ℕ)). Contains texts r.text) (sym (first_ahead (length state.seats) (plan state.front) r.text kept.workers.some asks))
      (All-head (Contains (r.text ∷ later)) r.text later (All-contains_itself (r.text ∷ later)))

  may : MayAsk (first state.front) r.text
  may =
      let later : List (List ℕ) = take (2 * length state.seats - 1) (asked_at_no (after (plan state.front) No)) in
      may_at_first plan first may_say put_so_far faults state kept unstopped r.text
      (All-head (MayAsk (plan state.front)) r.text later
      (subst (All (MayAsk (plan state.front))) (first_ahead (length state.seats) (plan state.front) r.text kept.workers.some asks)
      (ahead_may (plan state.front) [] (2 * length state.seats))))

  recorded : IsSoundHistory may_say (first state.front) state.kept (state.history ++ kept_event r ∷ []) (with_kept_record r state.table)
  recorded = record {
    legal = legal;
    readable = readable;
    recorded = records_after;
    sound = sound;
    may_ask = all_after (MayAsk (first state.front)) kept.recorded.may_ask may;
    short = all_after (λ (text : List ℕ). length text ≤ text_limit) kept.recorded.short short;
    go_with = go_with_more (verdict_in state.kept) state.history (kept_event r) kept.recorded.go_with verdict;
    not_kept = kept.recorded.not_kept;
    said = rw (asked_recalled state.history r.text r.verdict) kept.recorded.said;
  }

  is_ahead : state.table.records ≡ [] → Contains (ahead (2 * length state.seats) (first state.front)) r.text
  is_ahead none =
      let at_first : plan state.front ≡ first state.front =
      kept.replayed unstopped ∙ nothing_committed (first state.front) state.history kept.recorded.legal.commits (sym kept.recorded.recorded ∙ none) in
      subst (λ (p : Plan). Contains (ahead (2 * length state.seats) p) r.text) at_first is_first

  has : HasBytes (put_so_far state.journal) (journal_text state.start state.history)
  has = has_whole state.start state.kept state.fault state.history (put_so_far state.journal) (λ broken. cc (sym unstopped ∙ broken)) kept.journal

  written_none : (fault : Option PoolFault) → fault ≡ None → (put : Option Put) → HasBytes put (journal_text state.start (state.history ++ kept_event r ∷ []))
      → IfSome put (λ p. IsJournal state.start fault (state.history ++ kept_event r ∷ []) p.bytes)
  written_none None none put whole = whole
  written_none (Some fault) none put whole = absurd (cc none)

  -- recalled
  kept_after : (journal : J) → IsWritten put_so_far (kept_event r) state.journal journal
      → IsKept plan first may_say put_so_far faults (after_recall r journal state)
  kept_after journal written = record {
    recorded = recorded;
    begins =
        begins_recalled (ahead (2 * length state.seats) (first state.front)) state.table.records state.table.claims r kept.begins is_ahead;
    held = record { are_open = kept.held.are_open; apart = kept.held.apart; are_held = kept.held.are_held };
    workers = record {
      some = kept.workers.some;
      few = kept.workers.few;
      numbered = kept.workers.numbered;
      counted = kept.workers.counted ∙ ap length (sym (asked_recalled state.history r.text r.verdict));
      of_worker = kept.workers.of_worker;
    };
    replayed = λ none. kept.replayed none ∙ sym (replay_record [] (first state.front) state.history r.text r.verdict true);
    journal =
        written_none state.fault unstopped (put_so_far journal)
        (has_more state.start state.kept state.history (kept_event r) (put_so_far state.journal) (put_so_far journal) written has);
    due = λ broken. absurd (cc (sym unstopped ∙ broken));
    caused = λ broken. absurd (cc (sym unstopped ∙ broken));
  }

  recalled_after : (journal : J) → IsWritten put_so_far (kept_event r) state.journal journal
      → IsRecalled plan put_so_far state (after_recall r journal state)
  recalled_after journal written = record {
    kept = r;
    could = could;
    found = found;
    moved = (
      could.1,
      λ i. record {
        front = plan state.front;
        history = state.history ++ recalled_as (sym found i);
        claims = held_claims state.seats state.table.claims;
        kept = verdict_in state.kept;
      },
    );
    written = written;
    else_same = refl;
  }

  -- not written
  kept_broken : (journal : J) → IsPartlyWritten put_so_far (kept_event r) state.journal journal → Rose (faults state.journal) (faults journal)
      → IsKept plan first may_say put_so_far faults (record state { journal = journal; fault = Some Journal })
  kept_broken journal part rose =
      kept_stopped plan first may_say put_so_far faults state kept journal Journal (λ worker script. cc script)
      (broke_off state.start state.kept (first state.front) state.history (put_so_far journal) broken) (λ is. broken)
      (λ broken. (state.journal, rose))
    where
      broken : IfSome (put_so_far journal) (λ put. BrokeWhereDue (first state.front) state.start state.kept state.history put.bytes)
      broken =
          subst (λ (history : History). IfSome (put_so_far journal) (λ put. BrokeWhereDue (first state.front) state.start state.kept history put.bytes))
          (append-nil state.history)
          (broke_due state.start state.kept (first state.front) state.history [] (kept_event r) (put_so_far state.journal) (put_so_far journal)
          readable tt (ap asked (sym (kept.replayed unstopped)) ∙ asks, verdict) part has)

  -- ---- as the code leaves the board: the table, the history and the journal have become these

  left : (table : TableState) (history : History) (journal : J) (fault : Option PoolFault) (table_after : TableState) (history_after : History)
      → table ≡ table_after → history ≡ history_after
      → ◌≡◌ {A = BoardState S J} (record state { table = table_after; history = history_after; journal = journal; fault = fault })
      (record state { table = table; history = history; journal = journal; fault = fault })
  left table history journal fault table_after history_after same_table same_history =
      λ i. record state { table = sym same_table i; history = sym same_history i; journal = journal; fault = fault }

  pub kept_recalled : (table : TableState) (history : History) (journal : J) → table ≡ with_kept_record r state.table
      → history ≡ state.history ++ kept_event r ∷ [] → IsWritten put_so_far (kept_event r) state.journal journal
      → IsKept plan first may_say put_so_far faults (record state { table = table; history = history; journal = journal })
  kept_recalled table history journal same_table same_history written =
      subst (λ (s : BoardState S J). IsKept plan first may_say put_so_far faults s)
      (left table history journal state.fault (with_kept_record r state.table) (state.history ++ kept_event r ∷ []) same_table same_history)
      (kept_after journal written)

  pub recalled_ends : (table : TableState) (history : History) (journal : J) → table ≡ with_kept_record r state.table
      → history ≡ state.history ++ kept_event r ∷ [] → IsWritten put_so_far (kept_event r) state.journal journal
      → IsRecalled plan put_so_far state (record state { table = table; history = history; journal = journal })
  recalled_ends table history journal same_table same_history written =
      subst (λ (s : BoardState S J). IsRecalled plan put_so_far state s)
      (left table history journal state.fault (with_kept_record r state.table) (state.history ++ kept_event r ∷ []) same_table same_history)
      (recalled_after journal written)

  pub kept_failed : (A : Type 0) (fault : BoardFault) (table : TableState) (history : History) (journal : J)
      → RecordsKept {A = A} put_so_far (Err fault) r state.table table state.history history state.journal journal
      → (fault ≡ NotWritten → Rose (faults state.journal) (faults journal))
      → IsKept plan first may_say put_so_far faults (record state { table = table; history = history; journal = journal; fault = Some (board_fault fault) })
  kept_failed A NotWritten table history journal writes rose =
      subst (λ (s : BoardState S J). IsKept plan first may_say put_so_far faults s)
      (left table history journal (Some Journal) state.table state.history writes.0 writes.1) (kept_broken journal writes.2 (rose refl))
  kept_failed A (OutOfMemory _) table history journal writes rose =
      subst (λ (s : BoardState S J). IsKept plan first may_say put_so_far faults s)
      (λ i. record state { table = sym writes.0 i; history = sym writes.1 i; journal = sym writes.2 i; fault = Some (Memory ran_out) })
      (kept_out_of_memory plan first may_say put_so_far faults state kept unstopped)

  pub failed_ends : (A : Type 0) (fault : BoardFault) (table : TableState) (history : History) (journal : J)
      → RecordsKept {A = A} put_so_far (Err fault) r state.table table state.history history state.journal journal
      → RecallEnds plan put_so_far (Err fault) state
      (record state { table = table; history = history; journal = journal; fault = Some (board_fault fault) })
  failed_ends A NotWritten table history journal writes =
      subst (λ (s : BoardState S J). IsUnrecalled plan put_so_far state s)
      (left table history journal (Some Journal) state.table state.history writes.0 writes.1)
      (record { kept = r; could = could; found = found; part = writes.2; else_same = refl })
  failed_ends A (OutOfMemory memory) table history journal writes =
      (could, λ i. record state { table = writes.0 i; history = writes.1 i; journal = writes.2 i; fault = Some (Memory memory) })

-- after a failure the history is as before
pub failed_same : {J : Type 0} (put_so_far : J → Option Put) (A : Type 0) (fault : BoardFault) (r : Record) (table table_after : TableState)
    (history history_after : History) (old new : J)
    → RecordsKept {A = A} put_so_far (Err fault) r table table_after history history_after old new → history_after ≡ history
failed_same put_so_far A NotWritten r table table_after history history_after old new writes = writes.1
failed_same put_so_far A (OutOfMemory _) r table table_after history history_after old new writes = writes.1
